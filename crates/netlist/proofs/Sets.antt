-- Sets of chips as numbers: one chip more, and which chips the set of a list holds.
use Rattle.std.proofs.Common.{◌≡◌, ℕ, ◌+◌, ◌-◌, ◌*◌, ◌%◌, ◌^◌, ◌≤◌, max, Bool, true, false, cond, not, ◌&&◌, ◌||◌, eqb, leb, List, [], ◌∷◌, ◌++◌, Some, None, sym, refl, ap, ◌∙◌, ap₂, one-mul, zero-mul, arith}
use native.Mathlib.Nat.{zero-div}
use lib.Bits.{bit_and, bit_or}
use Rattle.std.specs.Bool.{then_some}
use Rattle.std.specs.Int.{bit_at}
use Rattle.std.proofs.lemmas.Nat.{pow_pos, one_shl, or_disjoint}
use Rattle.std.proofs.lemmas.Nat.Bits.{and_pow, bit_at_or, bit_at-lt, bit_at-pow_same, bit_at-pow_other}
use Rattle.std.proofs.lemmas.Bool.{and_parts, le-leb, leb-true, not-true, eq-eqb, ne_eqb, eqb-false, eqb-true, or_parts, or_from}
use Rattle.board.specs.Rows.{has_end}
use Rattle.board.proofs.Ends.{end_at}
use Rattle.netlist.specs.Lines.{among, Chips, ends_of, with_chip}

-- a bit that is not in the set is added to it
or_bit : (n k : ℕ) → bit_at n k ≡ 0 → bit_or n (2 ^ k) ≡ n + 2 ^ k
or_bit n k e = or_disjoint n (2 ^ k) (and_pow n k ∙ ap (λ x. x * 2 ^ k) e ∙ zero-mul (2 ^ k))

-- where a chip is no end, its bit is 0
no_bit : (n c : ℕ) → 1 ≤ c → has_end n c ≡ false → bit_at n (c - 1) ≡ 0
no_bit n c l e =
    let f = eqb-false (bit_at n (c - 1)) 1 (sym (end_at n c l) ∙ e) in
    omega (arith, f, bit_at-lt n (c - 1))

-- a set with a chip more holds that chip and what it held
has_more : (n d c : ℕ) → 1 ≤ d → 1 ≤ c → has_end n d ≡ false → has_end (2 ^ (d - 1) + n) c ≡ (eqb c d || has_end n c)
has_more n d c l h e = by (eqb c d) refl
  where
    sum : 2 ^ (d - 1) + n ≡ bit_or n (2 ^ (d - 1))
    sum = let o = or_bit n (d - 1) (no_bit n d l e) in omega (arith, o)

    bit : bit_at (2 ^ (d - 1) + n) (c - 1) ≡ max (bit_at n (c - 1)) (bit_at (2 ^ (d - 1)) (c - 1))
    bit = ap (λ x. bit_at x (c - 1)) sum ∙ bit_at_or n (2 ^ (d - 1)) (c - 1)

    by : (t : Bool) → eqb c d ≡ t → has_end (2 ^ (d - 1) + n) c ≡ (t || has_end n c)
    by true q =
        let one : bit_at (2 ^ (d - 1)) (c - 1) ≡ 1 = ap (λ x. bit_at (2 ^ (x - 1)) (c - 1)) (sym (eqb-true c d q)) ∙ bit_at-pow_same (c - 1) in
        end_at (2 ^ (d - 1) + n) c h ∙ eq-eqb _ 1 (omega (arith, bit, one, bit_at-lt n (c - 1)))
    by false q =
        let ne : c - 1 ≡ d - 1 → ⊥ = λ s. eqb-false c d q (omega arith) in
        let same : bit_at (2 ^ (d - 1) + n) (c - 1) ≡ bit_at n (c - 1) = omega (arith, bit, bit_at-pow_other (d - 1) (c - 1) ne) in
        end_at (2 ^ (d - 1) + n) c h ∙ ap (λ x. eqb x 1) same ∙ sym (end_at n c h)

-- the set of different chips holds just these
pub has_among : (cs : List ℕ) (c : ℕ) → Chips cs → 1 ≤ c → has_end (ends_of cs) c ≡ among c cs
has_among [] c g l = end_at 0 c l ∙ ap (λ x. eqb (x % 2) 1) (zero-div (2 ^ (c - 1)))
has_among (d ∷ cs) c g l =
    has_more (ends_of cs) d c g.0 l (has_among cs d g.3 g.0 ∙ g.2) ∙ ap (λ t. eqb c d || t) (has_among cs c g.3 l)

pub ends_push : (cs : List ℕ) (c : ℕ) → ends_of (cs ++ c ∷ []) ≡ ends_of cs + 2 ^ (c - 1)
ends_push [] c = omega arith
ends_push (d ∷ cs) c = omega (arith, ends_push cs c)

pub ends_some : (c : ℕ) (cs : List ℕ) → ends_of (c ∷ cs) ≡ 0 → ⊥
ends_some c cs e = omega (arith, e, pow_pos (c - 1))

among_push : (d c : ℕ) (cs : List ℕ) → among d cs ≡ false → eqb d c ≡ false → among d (cs ++ c ∷ []) ≡ false
among_push d c [] a e = or_from (eqb d c) false e refl
among_push d c (x ∷ cs) a e = let p = or_parts (eqb d x) (among d cs) a in or_from (eqb d x) (among d (cs ++ c ∷ [])) p.0 (among_push d c cs p.1 e)

turned : (c d : ℕ) → eqb c d ≡ false → eqb d c ≡ false
turned c d e = ne_eqb d c (λ s. eqb-false c d e (sym s))

-- one chip more at the end
pub chips_push : (cs : List ℕ) (c : ℕ) → Chips cs → 1 ≤ c → c ≤ 32 → among c cs ≡ false → Chips (cs ++ c ∷ [])
chips_push [] c g l h a = (l, h, refl, tt)
chips_push (d ∷ cs) c g l h a =
    let p = or_parts (eqb c d) (among c cs) a in
    (g.0, g.1, among_push d c cs g.2 (turned c d p.0), chips_push cs c g.3 l h p.1)

-- the chip in the middle of a list is good and is none of those before it
among_middle : (d c : ℕ) (cs ds : List ℕ) → among d (cs ++ c ∷ ds) ≡ false → eqb d c ≡ false
among_middle d c [] ds a = (or_parts (eqb d c) (among d ds) a).0
among_middle d c (x ∷ cs) ds a = among_middle d c cs ds (or_parts (eqb d x) (among d (cs ++ c ∷ ds)) a).1

pub chips_middle : (cs : List ℕ) (c : ℕ) (ds : List ℕ) → Chips (cs ++ c ∷ ds) → (1 ≤ c) × (c ≤ 32) × (among c cs ≡ false)
chips_middle [] c ds g = (g.0, g.1, refl)
chips_middle (d ∷ cs) c ds g =
    let r = chips_middle cs c ds g.3 in
    (r.0, r.1, or_from (eqb c d) (among c cs) (turned d c (among_middle d c cs ds g.2)) r.2)

module _ (n c : ℕ) (low : 1 ≤ c) (high : c ≤ 32) where
  bit_is : 1 * 2 ^ (c - 1) % 2 ^ 32 ≡ 2 ^ (c - 1)
  bit_is = one_shl (c - 1) 32 (omega arith)

  tests : (t : Bool) → has_end n c ≡ t → (leb 1 c && (leb c 32 && not (has_end n c))) ≡ not t
  tests t e = ap₂ (λ a b. a && (b && not (has_end n c))) (le-leb 1 c low) (le-leb c 32 high) ∙ ap not e

  -- a chip that is in the set is refused, and any other enters it
  pub with_bit : then_some (eqb (bit_and n (1 * 2 ^ (c - 1) % 2 ^ 32)) 0) (bit_or n (1 * 2 ^ (c - 1) % 2 ^ 32)) ≡ with_chip n c
  with_bit = ap (λ b. then_some (eqb (bit_and n b) 0) (bit_or n b)) bit_is ∙ by (has_end n c) refl
    where
      by : (t : Bool) → has_end n c ≡ t → then_some (eqb (bit_and n (2 ^ (c - 1))) 0) (bit_or n (2 ^ (c - 1))) ≡ with_chip n c
      by true e =
          let one = eqb-true (bit_at n (c - 1)) 1 (sym (end_at n c low) ∙ e) in
          let more : bit_and n (2 ^ (c - 1)) ≡ 2 ^ (c - 1) = and_pow n (c - 1) ∙ ap (λ x. x * 2 ^ (c - 1)) one ∙ one-mul (2 ^ (c - 1)) in
          ap (λ b. then_some b (bit_or n (2 ^ (c - 1)))) (ne_eqb _ 0 (λ z. omega (arith, more, z, pow_pos (c - 1)))) ∙ sym (ap (λ b. cond b (Some (n + 2 ^ (c - 1))) None) (tests true e))
      by false e =
          let zero = no_bit n c low e in
          let none = and_pow n (c - 1) ∙ ap (λ x. x * 2 ^ (c - 1)) zero ∙ zero-mul (2 ^ (c - 1)) in
          ap₂ then_some (eq-eqb _ 0 none) (or_bit n (c - 1) zero) ∙ sym (ap (λ b. cond b (Some (n + 2 ^ (c - 1))) None) (tests false e))

-- and so does what the set of a list refuses, and what enters it
module _ (cs : List ℕ) (c : ℕ) (good : Chips cs) where
  pub with_some : (ends : ℕ) → Some ends ≡ with_chip (ends_of cs) c → Chips (cs ++ c ∷ []) × (ends ≡ ends_of (cs ++ c ∷ []))
  with_some ends = by (leb 1 c && (leb c 32 && not (has_end (ends_of cs) c))) refl
    where
      by : (t : Bool) → (leb 1 c && (leb c 32 && not (has_end (ends_of cs) c))) ≡ t → Some ends ≡ cond t (Some (ends_of cs + 2 ^ (c - 1))) None → Chips (cs ++ c ∷ []) × (ends ≡ ends_of (cs ++ c ∷ []))
      by false t e = cc
      by true t e =
          let p = and_parts (leb 1 c) (leb c 32 && not (has_end (ends_of cs) c)) t in
          let q = and_parts (leb c 32) (not (has_end (ends_of cs) c)) p.1 in
          let l = leb-true 1 c p.0 in
          let more = ends_push cs c in
          (chips_push cs c good l (leb-true c 32 q.0) (sym (has_among cs c good l) ∙ not-true (has_end (ends_of cs) c) q.1), (cc))

  pub with_none : (ds : List ℕ) → None ≡ with_chip (ends_of cs) c → Chips (cs ++ c ∷ ds) → ⊥
  with_none ds e all =
      let r = chips_middle cs c ds all in
      let t = tests (ends_of cs) c r.0 r.1 false (has_among cs c good r.0 ∙ r.2) in
      let s : None ≡ Some (ends_of cs + 2 ^ (c - 1)) = e ∙ ap (λ b. cond b (Some (ends_of cs + 2 ^ (c - 1))) None) t in
      cc
