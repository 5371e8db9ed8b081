-- The forms of a line as sequences of pieces.
use Rattle.std.proofs.Common.{◌≡◌, ℕ, ◌≤◌, List, ◌∷◌, ◌++◌, length, Some, None, Option, sym, refl, ap, ◌∙◌, subst, arith}
use Rattle.std.specs.Option.{option_map}
use Rattle.board.specs.declared.edit.Edit.{Edit}
use Rattle.netlist.specs.Lines.{Line, BoardLine, NetLine, LockLine, render, edit_of}
use Rattle.netlist.specs.Pieces.{Piece, byte, letter, field, opening, chips, form}
use Rattle.netlist.specs.Place.{rest, Finds, FindsAs, Takes}
use Rattle.netlist.specs.declared.reader.Reader.{Reader}
use Rattle.netlist.proofs.Listed.{no_digit}
use Rattle.netlist.proofs.Sequences.{◌then◌}

-- a piece that begins with a byte does not stand where the byte does not
pub no_byte : {A : Type 0} {piece : Piece A} {b : ℕ} (left : A → List ℕ) → ((x : A) → piece.written x ≡ b ∷ left x) → {here next : Reader} {r : Option A} → r ≡ None → Takes (byte b) here None next → Finds piece here r next
no_byte {piece = piece} left written {here} {next} e t = subst (λ r. Finds piece here r next) (sym e) (record {
  found = λ x behind fits p. t.finds.found tt (left x ++ behind) tt (p ∙ ap (λ bs. bs ++ behind) (written x));
  line = t.finds.line;
})

-- a piece that is told by something made from it
module _ {A B : Type 0} {told : A → B} {piece : Piece A} {here next : Reader} where
  pub told_none : FindsAs told piece here None next → Finds piece here None next
  told_none t = by t.0 t.1 t.2
    where
      by : (o : Option A) → Finds piece here o next → None ≡ option_map told o → Finds piece here None next
      by None t e = t
      by (Some x) t e = cc

  pub told_some : {y : B} → FindsAs told piece here (Some y) next → (x : A) × Finds piece here (Some x) next × (y ≡ told x)
  told_some {y} t = by t.0 t.1 t.2
    where
      by : (o : Option A) → Finds piece here o next → Some y ≡ option_map told o → (x : A) × Finds piece here (Some x) next × (y ≡ told x)
      by (Some x) t e = (x, t, (cc))
      by None t e = cc

-- the lines of a letter are these parts
pub record IsMadeOf (letter : ℕ) {A : Type 0} (parts : Piece A) (line_of : A → Line) : Type 0 where
  pub parted : (line : Line) (behind : List ℕ) → (form letter).Fits line behind → (x : A) × parts.Fits x behind × (line ≡ line_of x)
  pub joined : (x : A) (behind : List ℕ) → parts.Fits x behind → (form letter).Fits (line_of x) behind
  pub written : (x : A) → render (line_of x) ≡ parts.written x

module _ {letter : ℕ} {A : Type 0} {parts : Piece A} {line_of : A → Line} (made : IsMadeOf letter parts line_of) {here next : Reader} where
  pub no_form : {r : Option Edit} → Finds parts here None next → r ≡ None → FindsAs edit_of (form letter) here r next
  no_form f e = (
    None,
    record {
      found = λ line behind fits p.
          let x = made.parted line behind fits in
          f.found x.0 behind x.1 (p ∙ ap (λ bs. bs ++ behind) (ap render x.2 ∙ made.written x.0));
      line = f.line;
    },
    e,
  )

  pub a_form : (x : A) {edit : Edit} → edit ≡ edit_of (line_of x) → Finds parts here (Some x) next → FindsAs edit_of (form letter) here (Some edit) next
  a_form x e f = (
    Some (line_of x),
    record {
      found = (made.joined x (rest next) f.found.0, f.found.1 ∙ ap (λ bs. bs ++ rest next) (sym (made.written x)));
      line = f.line;
    },
    ap Some e,
  )

abbrev pub board_parts : Piece (ℕ × (ℕ × (ℕ × Unit {0})))
board_parts = opening 66 then field then field then byte 10

abbrev pub net_parts : Piece (ℕ × List ℕ)
net_parts = opening 78 then chips

abbrev pub lock_parts : Piece (ℕ × (Unit {0} × (ℕ × Unit {0})))
lock_parts = opening 76 then byte 32 then letter then byte 10

pub board_form : IsMadeOf 66 board_parts (λ x. BoardLine x.0 x.1.0 x.1.1.0)
unfolding ◌then◌
board_form = record {
  parted = apart;
  joined = λ x behind fits. ((fits.0.0, fits.1.0.0, fits.1.1.0.0), refl);
  written = λ x. refl;
}
  where
    apart : (line : Line) (behind : List ℕ) → (form 66).Fits line behind → (x : ℕ × (ℕ × (ℕ × Unit {0}))) × board_parts.Fits x behind × (line ≡ BoardLine x.0 x.1.0 x.1.1.0)
    apart (BoardLine p k m) behind fits = ((p, (k, (m, tt))), ((fits.0.0, refl), ((fits.0.1, refl), ((fits.0.2, refl), tt))), refl)
    apart (NetLine n cs) behind fits = absurd (omega (arith, fits.1))
    apart (LockLine n l) behind fits = absurd (omega (arith, fits.1))

pub net_form : IsMadeOf 78 net_parts (λ x. NetLine x.0 x.1)
unfolding ◌then◌
net_form = record {
  parted = apart;
  joined = λ x behind fits. ((fits.0.0, fits.1.0, fits.1.1), refl);
  written = λ x. refl;
}
  where
    apart : (line : Line) (behind : List ℕ) → (form 78).Fits line behind → (x : ℕ × List ℕ) × net_parts.Fits x behind × (line ≡ NetLine x.0 x.1)
    apart (NetLine n cs) behind fits = ((n, cs), ((fits.0.0, no_digit cs behind), (fits.0.1, fits.0.2)), refl)
    apart (BoardLine p k m) behind fits = absurd (omega (arith, fits.1))
    apart (LockLine n l) behind fits = absurd (omega (arith, fits.1))

pub lock_form : IsMadeOf 76 lock_parts (λ x. LockLine x.0 x.1.1.0)
unfolding ◌then◌
lock_form = record {
  parted = apart;
  joined = λ x behind fits. ((fits.0.0, fits.1.1.0), refl);
  written = λ x. refl;
}
  where
    apart : (line : Line) (behind : List ℕ) → (form 76).Fits line behind → (x : ℕ × (Unit {0} × (ℕ × Unit {0}))) × lock_parts.Fits x behind × (line ≡ LockLine x.0 x.1.1.0)
    apart (LockLine n l) behind fits = ((n, (tt, (l, tt))), ((fits.0.0, refl), (tt, (fits.0.1, tt))), refl)
    apart (BoardLine p k m) behind fits = absurd (omega (arith, fits.1))
    apart (NetLine n cs) behind fits = absurd (omega (arith, fits.1))

-- a line is not empty
pub render_some : (line : Line) → 1 ≤ length (render line)
render_some (BoardLine p k m) = omega arith
render_some (NetLine n cs) = omega arith
render_some (LockLine n l) = omega arith
