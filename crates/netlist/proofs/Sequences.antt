-- Pieces one after the other, and that a text begins with at most one thing of a piece.
use Rattle.std.proofs.Common.{◌≡◌, ℕ, ◌+◌, List, ◌++◌, Some, None, sym, refl, ap, ◌∙◌, subst, append_assoc, arith}
use Rattle.netlist.specs.Pieces.{Piece, byte, one_of, number, field, opening}
use Rattle.netlist.specs.Place.{rest, Finds}
use Rattle.netlist.specs.declared.reader.Reader.{Reader}
use Rattle.netlist.proofs.Numbers.{number_same}

-- a text begins with one thing at most
pub record Only {A : Type 0} (piece : Piece A) : Type 0 where
  pub same : (x y : A) (p q : List ℕ) → piece.Fits x p → piece.Fits y q → piece.written x ++ p ≡ piece.written y ++ q → (x ≡ y) × (p ≡ q)

infixr 20 ◌then◌
unfoldable pub ◌then◌ : {A B : Type 0} → Piece A → Piece B → Piece (A × B)
first then second =
    record {
      written = λ x. first.written x.0 ++ second.written x.1;
      Fits = λ x behind. first.Fits x.0 (second.written x.1 ++ behind) × second.Fits x.1 behind;
    }

-- a reader finds both pieces, or the first is not there, or the second is not there behind it
pub first_none : {A B : Type 0} {first : Piece A} (second : Piece B) {here next : Reader} → Finds first here None next → Finds (first then second) here None next
first_none {first = first} second f = unfold ◌then◌ in record {
  found = λ x behind fits e. f.found x.0 (second.written x.1 ++ behind) fits.0 (e ∙ append_assoc (first.written x.0) (second.written x.1) behind);
  line = f.line;
}

module _ {A B : Type 0} {first : Piece A} {second : Piece B} where
  pub only_both : Only first → Only second → Only (first then second)
  only_both f s = unfold ◌then◌ in record {
    same = λ x y p q fx fy e.
        let r = f.same x.0 y.0 (second.written x.1 ++ p) (second.written y.1 ++ q) fx.0 fy.0 (sym (append_assoc (first.written x.0) (second.written x.1) p) ∙ e ∙ append_assoc (first.written y.0) (second.written y.1) q) in
        let t = s.same x.1 y.1 p q fx.1 fy.1 r.1 in
        ((λ i. (r.0 i, t.0 i)), t.1);
  }

  pub then_none : {here there next : Reader} {a : A} → Only first → Finds first here (Some a) there → Finds second there None next → Finds (first then second) here None next
  then_none {there = there} {a = a} only f s = unfold ◌then◌ in record {
    found = λ x behind fits e.
        s.found x.1 behind fits.1
        (only.same a x.0 (rest there) (second.written x.1 ++ behind) f.found.0 fits.0 (sym f.found.1 ∙ e ∙ append_assoc (first.written x.0) (second.written x.1) behind)).1;
    line = s.line ∙ f.line;
  }

  pub then_some : {here there next : Reader} {a : A} {b : B} → Finds first here (Some a) there → Finds second there (Some b) next → Finds (first then second) here (Some (a, b)) next
  then_some {next = next} {a = a} {b = b} f s = unfold ◌then◌ in record {
    found = (
      (subst (first.Fits a) s.found.1 f.found.0, s.found.0),
      f.found.1 ∙ ap (λ bs. first.written a ++ bs) s.found.1 ∙ sym (append_assoc (first.written a) (second.written b) (rest next)),
    );
    line = s.line ∙ f.line;
  }

pub only_byte : {b : ℕ} → Only (byte b)
only_byte {b} = record { same = λ x y p q fx fy e. (refl, (cc)) }

pub only_one_of : (start count : ℕ) → Only (one_of start count)
only_one_of start count = record {
  same = λ x y p q fx fy e.
      let s : start + x ≡ start + y = cc in
      (omega arith, (cc));
}

pub only_number : Only number
only_number = record { same = λ x y p q fx fy e. number_same x y p q fx.0 fy.0 fx.1 fy.1 e }

pub only_field : Only field
only_field = record {
  same = λ x y p q fx fy e.
      let t : number.written x ++ p ≡ number.written y ++ q = cc in
      only_number.same x y p q fx fy t;
}

pub only_opening : {letter : ℕ} → Only (opening letter)
only_opening = record {
  same = λ x y p q fx fy e.
      let t : number.written x ++ p ≡ number.written y ++ q = cc in
      only_number.same x y p q fx fy t;
}
