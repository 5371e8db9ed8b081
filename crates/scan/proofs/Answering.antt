-- The valuation read off a partial one in which no variable is open.
use Rattle.std.proofs.Common.{◌≡◌, ℕ, zero, suc, ◌<◌, ◌≤◌, true, eqb, List, [], ◌∷◌, map, length, get_or, take, drop, ℤ, pos, negsuc, None, refl, ap, ◌∙◌, arith}
use Rattle.std.specs.List.{ContainsAt, AllByRecursion}
use Rattle.std.proofs.lemmas.List.{length-map, length-take-le, length-drop, get_or-map, get_or-take, get_or-drop}
use Rattle.std.proofs.ByRecursion.{all-has}
use Rattle.std.proofs.lemmas.Bool.{or_left, or_right}
use Rattle.sat.specs.Formula.{is_true, satisfied, clauses_of, within}
use Rattle.sat.specs.Question.{Models}
use Rattle.scan.specs.Values.{by_value, opposite, reads, Closed, read_off}
use Rattle.scan.specs.Clauses.{judged, Means}
use Rattle.scan.specs.Rounds.{tells, Finds}
use Rattle.scan.specs.declared.value.Value.{Value}
use Rattle.scan.specs.declared.value.Value.TheVariants.{Open, True, False}
use Rattle.scan.specs.declared.clause.Standing.{Standing}
use Rattle.scan.specs.declared.clause.Standing.TheVariants.{Undecided, Satisfied, AllFalse, Forcing}
use Rattle.scan.proofs.Meaning.{judged_means}
use Rattle.scan.proofs.Literals.{Names, slot_open, clauses_name}

abbrev byte : Value → ℕ
byte value = by_value value 0 1 0

byte_bit : (v : Value) → byte v ≤ 1
byte_bit Open = omega arith
byte_bit True = omega arith
byte_bit False = omega arith

all_bits : (values : List Value) → AllByRecursion (λ b. b ≤ 1) (map byte values)
all_bits [] = tt
all_bits (v ∷ values) = (byte_bit v, all_bits values)

has_satisfies : (m : List ℕ) (clause : List ℤ) (z : ℤ) → ContainsAt clause z → is_true m z ≡ true → satisfied m clause ≡ true
has_satisfies m clause z h t = at clause h.0 h.1 (h.2 z)
  where
    at : (zs : List ℤ) (k : ℕ) → k < length zs → get_or zs k z ≡ z → satisfied m zs ≡ true
    at [] k l e = absurd (omega arith)
    at (y ∷ zs) zero l e = or_left (is_true m y) (satisfied m zs) (ap (is_true m) e ∙ t)
    at (y ∷ zs) (suc k) l e = or_right (is_true m y) (satisfied m zs) (at zs k (omega arith) e)

module _ (v : ℕ) (values : List Value) (room : v < length values) where
  off_length : length (take v (drop 1 values)) ≡ v
  off_length = length-take-le v (drop 1 values) (omega (arith, length-drop 1 values))

  off_size : length (read_off v values) ≡ v
  off_size = length-map (take v (drop 1 values)) byte ∙ off_length

  -- the byte of a variable
  off_byte : (n : ℕ) → n < v → get_or (read_off v values) n 0 ≡ byte (get_or values (suc n) Open)
  off_byte n h =
      get_or-map byte (take v (drop 1 values)) n Open 0 (omega (arith, off_length))
      ∙ ap byte (get_or-take v (drop 1 values) n Open h ∙ get_or-drop 1 values n Open ∙ ap (λ k. get_or values k Open) (omega arith))

  off_true : (z : ℤ) → Names v z → reads values z ≡ True → is_true (read_off v values) z ≡ true
  off_true (pos zero) h e = cc
  off_true (pos (suc n)) h e = ap (λ b. eqb b 1) (off_byte n (omega (arith, h.1)) ∙ ap byte e)
  off_true (negsuc n) h e = ap (λ b. eqb b 0) (off_byte n (omega (arith, h.1)) ∙ off_false (get_or values (suc n) Open) e)
    where
      off_false : (w : Value) → opposite w ≡ True → byte w ≡ 0
      off_false Open f = refl
      off_false True f = cc
      off_false False f = refl

  module _ (all : Closed v values) where
    closed_literal : (z : ℤ) → Names v z → reads values z ≡ Open → ⊥
    closed_literal (pos zero) h e = cc
    closed_literal (pos (suc n)) h e = all n (omega (arith, h.1)) e
    closed_literal (negsuc n) h e = all n (omega (arith, h.1)) (slot_open values (negsuc n) refl e)

    quiet_holds : (clause : List ℤ) (s : Standing) → AllByRecursion (Names v) clause → Means values clause s → tells s ≡ None → satisfied (read_off v values) clause ≡ true
    quiet_holds clause Undecided h k e = absurd (closed_literal k.0 (all-has (Names v) clause k.0 h k.1) k.2)
    quiet_holds clause Satisfied h k e = has_satisfies (read_off v values) clause k.0 k.1 (off_true k.0 (all-has (Names v) clause k.0 h k.1) k.2)
    quiet_holds clause AllFalse h k e = cc
    quiet_holds clause (Forcing z) h k e = cc

    quiet_clauses : (clauses : List (List ℤ)) → AllByRecursion (AllByRecursion (Names v)) clauses → Finds values clauses None → AllByRecursion (λ clause. satisfied (read_off v values) clause ≡ true) clauses
    quiet_clauses [] h k = tt
    quiet_clauses (clause ∷ clauses) h k = (quiet_holds clause (judged values clause) h.0 (judged_means values clause) k.0, quiet_clauses clauses h.1 k.1)

    off_kept : (zs : List ℤ) → AllByRecursion (Names v) zs → AllByRecursion (λ z. reads values z ≡ True) zs → AllByRecursion (λ z. is_true (read_off v values) z ≡ true) zs
    off_kept [] h k = tt
    off_kept (z ∷ zs) h k = (off_true z h.0 k.0, off_kept zs h.1 k.1)

    -- where no clause tells anything and the assumed literals are true, the valuation answers the question
    pub off_models : (formula assumed : List ℤ) → within v formula ≡ true → AllByRecursion (Names v) assumed → Finds values (clauses_of formula) None → AllByRecursion (λ z. reads values z ≡ True) assumed →
        Models v formula assumed (read_off v values)
    off_models formula assumed w h k t = record {
      size = off_size;
      bits = all_bits (take v (drop 1 values));
      clauses = quiet_clauses (clauses_of formula) (clauses_name v formula w) k;
      kept = off_kept assumed h t;
    }
