-- A text has one reading: a line is given by what it is written as, and so are the lines of a text.
use Rattle.std.proofs.Common.{◌≡◌, ℕ, ◌+◌, ◌<◌, ◌≤◌, cond, List, [], ◌∷◌, ◌++◌, map, length, get_or, is_ok, Some, None, Ok, Err, Result, sym, refl, ap, ◌∙◌, subst, ap₂, ⊎_elim, append_assoc, arith, length-append}
use Rattle.std.proofs.lemmas.Bool.{cases_lt}
use Rattle.std.specs.List.{flat_map}
use Rattle.board.specs.Held.{Held, judged, after, after_all}
use Rattle.netlist.specs.Lines.{Line, BoardLine, NetLine, LockLine, Chips, Formed, MayStand, render, keyword, edit_of}
use Rattle.netlist.specs.Pieces.{Piece, chips, form}
use Rattle.netlist.specs.Reads.{Placed, Accepted, Stops, Reads, Alone}
use Rattle.netlist.specs.declared.fault.Fault.{Fault}
use Rattle.netlist.specs.declared.fault.Fault.TheVariants.{TooLong, NoForm, Declined}
use Rattle.netlist.proofs.Listed.{no_digit, field_first}
use Rattle.netlist.proofs.Parts.{IsMadeOf, board_form, net_form, lock_form, render_some}
use Rattle.netlist.proofs.Sequences.{Only, only_both, only_byte, only_one_of, only_field, only_opening}

chips-same : (cs ds p q : List ℕ) → Chips cs → Chips ds → chips.written cs ++ p ≡ chips.written ds ++ q → (cs ≡ ds) × (p ≡ q)
chips-same [] [] p q g h e = (refl, (cc))
chips-same [] (d ∷ ds) p q g h e = cc
chips-same (c ∷ cs) [] p q g h e = cc
chips-same (c ∷ cs) (d ∷ ds) p q g h e =
    let s = only_field.same c d (chips.written cs ++ p) (chips.written ds ++ q) (omega (arith, g.1), no_digit cs p) (omega (arith, h.1), no_digit ds q) (sym (field_first c cs p) ∙ e ∙ field_first d ds q) in
    let t = chips-same cs ds p q g.3 h.3 s.1 in
    (ap₂ (λ x xs. x ∷ xs) s.0 t.0, t.1)

only_chips : Only chips
only_chips = record { same = λ cs ds p q g h e. chips-same cs ds p q g.1 h.1 e }

-- lines of one letter, and what stands behind them, are given by the text
module _ {letter : ℕ} {A : Type 0} {parts : Piece A} {line_of : A → Line} (made : IsMadeOf letter parts line_of) (only : Only parts) where
  of_parts : (a b : Line) (p q : List ℕ) → (form letter).Fits a p → (form letter).Fits b q → render a ++ p ≡ render b ++ q → (a ≡ b) × (p ≡ q)
  of_parts a b p q f g e =
      let x = made.parted a p f in
      let y = made.parted b q g in
      let s = only.same x.0 y.0 p q x.1 y.1 (ap (λ bs. bs ++ p) (sym (ap render x.2 ∙ made.written x.0)) ∙ e ∙ ap (λ bs. bs ++ q) (ap render y.2 ∙ made.written y.0)) in
      (x.2 ∙ ap line_of s.0 ∙ sym y.2, s.1)

of_form : (a b : Line) (p q : List ℕ) → Formed a → (form (keyword a)).Fits b q → render a ++ p ≡ render b ++ q → (a ≡ b) × (p ≡ q)
of_form (BoardLine c k m) b p q f g = of_parts board_form (only_both only_opening (only_both only_field (only_both only_field only_byte))) (BoardLine c k m) b p q (f, refl) g
of_form (NetLine n cs) b p q f g = of_parts net_form (only_both only_opening only_chips) (NetLine n cs) b p q (f, refl) g
of_form (LockLine n l) b p q f g = of_parts lock_form (only_both only_opening (only_both only_byte (only_both (only_one_of _ _) only_byte))) (LockLine n l) b p q (f, refl) g

-- a line begins with its letter
begins : (a : Line) (p : List ℕ) → get_or (render a ++ p) 0 0 ≡ keyword a
begins (BoardLine c k m) p = refl
begins (NetLine n cs) p = refl
begins (LockLine n l) p = refl

-- a line and what stands behind it are given by the text
pub line_same : (a b : Line) (p q : List ℕ) → Formed a → Formed b → render a ++ p ≡ render b ++ q → (a ≡ b) × (p ≡ q)
line_same a b p q f g e = of_form a b p q f (g, sym (begins b q) ∙ ap (λ bs. get_or bs 0 0) (sym e) ∙ begins a p) e

no_line_in_nothing : (line : Line) (behind : List ℕ) → [] ≡ render line ++ behind → ⊥
no_line_in_nothing line behind e = omega (arith, render_some line, ap length e ∙ length-append (render line) behind)

module _ (held : Held) (place : ℕ) (left : List ℕ) where
  -- reading does not stop before a line that the board takes
  goes_on : (line : Line) (behind : List ℕ) (r : Result (Unit {0}) Fault) → MayStand place line → judged held (edit_of line) ≡ None → left ≡ render line ++ behind → Stops held place left r → ⊥
  goes_on line behind (Ok x) m j e s = no_line_in_nothing line behind (sym s.0 ∙ e)
  goes_on line behind (Err TooLong) m j e s = s
  goes_on line behind (Err (NoForm n)) m j e s = s.2 line behind m e
  goes_on line behind (Err (Declined n cause)) m j e s =
      let same = line_same s.1 line s.2 behind s.3.0 m.0 (sym s.4 ∙ e) in
      let n : None ≡ Some cause = sym j ∙ ap (λ l. judged held (edit_of l)) (sym same.0) ∙ s.5 in
      cc

  -- and it stops for one reason
  stops_same : (r s : Result (Unit {0}) Fault) → Stops held place left r → Stops held place left s → r ≡ s
  stops_same (Ok x) (Ok y) a b = refl
  stops_same (Ok x) (Err TooLong) a b = absurd b
  stops_same (Ok x) (Err (NoForm n)) a b = absurd (omega (arith, b.1 a.0))
  stops_same (Ok x) (Err (Declined n cause)) a b = absurd (no_line_in_nothing b.1 b.2 (sym a.0 ∙ b.4))
  stops_same (Err TooLong) s a b = absurd a
  stops_same (Err (NoForm n)) (Ok y) a b = absurd (omega (arith, a.1 b.0))
  stops_same (Err (NoForm n)) (Err TooLong) a b = absurd b
  stops_same (Err (NoForm n)) (Err (NoForm m)) a b = ap (λ x. Err (NoForm x)) (a.0 ∙ sym b.0)
  stops_same (Err (NoForm n)) (Err (Declined m cause)) a b = absurd (a.2 b.1 b.2 b.3 b.4)
  stops_same (Err (Declined n cause)) (Ok y) a b = absurd (no_line_in_nothing a.1 a.2 (sym b.0 ∙ a.4))
  stops_same (Err (Declined n cause)) (Err TooLong) a b = absurd b
  stops_same (Err (Declined n cause)) (Err (NoForm m)) a b = absurd (b.2 a.1 a.2 a.3 a.4)
  stops_same (Err (Declined n cause)) (Err (Declined m other)) a b =
      let same = line_same a.1 b.1 a.2 b.2 a.3.0 b.3.0 (sym a.4 ∙ b.4) in
      let j : Some cause ≡ Some other = sym a.5 ∙ ap (λ l. judged held (edit_of l)) same.0 ∙ b.5 in
      let p : n ≡ m = a.0 ∙ sym b.0 in
      let c : cause ≡ other = cc in
      cc

-- so the lines before it are given too
lines_same : (held : Held) (place : ℕ) (ls ms : List Line) (p q : ℕ) (x y : List ℕ) (r s : Result (Unit {0}) Fault) →
    Placed place ls → Placed place ms → Accepted held ls → Accepted held ms → flat_map render ls ++ x ≡ flat_map render ms ++ y →
    p ≡ place + length ls → q ≡ place + length ms → Stops (after_all held (map edit_of ls)) p x r → Stops (after_all held (map edit_of ms)) q y s →
    (r ≡ s) × (after_all held (map edit_of ls) ≡ after_all held (map edit_of ms))
lines_same held place [] [] p q x y r s pl pm al am e i j a b =
    let n : q ≡ p = omega arith in
    (stops_same held p x r s a (subst (λ z. Stops held p z s) (sym e) (subst (λ z. Stops held z y s) n b)), refl)
lines_same held place [] (m ∷ ms) p q x y r s pl pm al am e i j a b =
    let n : p ≡ place = omega arith in
    absurd (goes_on held place x m (flat_map render ms ++ y) r pm.0 am.0 (e ∙ append_assoc (render m) (flat_map render ms) y) (subst (λ z. Stops held z x r) n a))
lines_same held place (l ∷ ls) [] p q x y r s pl pm al am e i j a b =
    let n : q ≡ place = omega arith in
    absurd (goes_on held place y l (flat_map render ls ++ x) s pl.0 al.0 (sym e ∙ append_assoc (render l) (flat_map render ls) x) (subst (λ z. Stops held z y s) n b))
lines_same held place (l ∷ ls) (m ∷ ms) p q x y r s pl pm al am e i j a b =
    let same = line_same l m (flat_map render ls ++ x) (flat_map render ms ++ y) pl.0.0 pm.0.0 (sym (append_assoc (render l) (flat_map render ls) x) ∙ e ∙ append_assoc (render m) (flat_map render ms) y) in
    let h : after held (edit_of m) ≡ after held (edit_of l) = ap (λ z. after held (edit_of z)) (sym same.0) in
    let t =
    lines_same (after held (edit_of l)) (place + 1) ls ms p q x y r s pl.1 pm.1 al.1 (subst (λ z. Accepted z ms) h am.1) same.1 (omega arith) (omega arith)
    a (subst (λ z. Stops (after_all z (map edit_of ms)) q y s) h b) in
    (t.0, t.1 ∙ ap (λ z. after_all z (map edit_of ms)) (sym h))

pub reads_alone : (held : Held) (text : List ℕ) (r : Result (Unit {0}) Fault) (after : Held) → Reads held text r after → Alone held text r after
reads_alone held text r after a s other b = ⊎_elim long short (cases_lt 16384 (length text))
  where
    long : 16384 < length text → (s ≡ r) × (other ≡ after)
    long l = ((b.long l).0 ∙ sym (a.long l).0, (b.long l).1 ∙ sym (a.long l).1)

    short : length text ≤ 16384 → (s ≡ r) × (other ≡ after)
    short h =
        let x = a.short h in
        let y = b.short h in
        let t = lines_same held 1 y.lines x.lines (length y.lines + 1) (length x.lines + 1) y.left x.left s r y.placed x.placed y.accepted x.accepted (sym y.written ∙ x.written) (omega arith) (omega arith) y.stops x.stops in
        (t.0, y.leaves ∙ ap₂ (λ u v. cond (is_ok u) v held) t.0 t.1 ∙ sym x.leaves)
