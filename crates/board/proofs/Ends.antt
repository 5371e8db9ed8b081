-- The chips of a set: which it holds.
use Rattle.std.proofs.Common.{◌≡◌, ℕ, zero, suc, ◌-◌, ◌/◌, ◌%◌, ◌^◌, ◌<◌, ◌≤◌, true, false, ◌&&◌, eqb, ltb, leb, ◌⊎◌, sym, refl, ap, ◌∙◌, inl, inr, ⊎_elim, not-suc-le-zero, arith, pow_mono}
use native.Mathlib.Nat.{div-eq_of_lt}
use lib.Count.{ones}
use Rattle.std.proofs.lemmas.Nat.{le-div, pow_pos}
use Rattle.std.proofs.lemmas.Bool.{cases_lt, false≢true, le-leb, lt-ltb, le-ltb, ne_eqb}
use Rattle.board.specs.Rows.{has_end, are_ends}

-- there is no chip 0
pub no_chip_zero : (ends : ℕ) → has_end ends 0 ≡ false
unfolding has_end
no_chip_zero ends = refl

-- any other chip is at the place before it
pub end_at : (ends chip : ℕ) → 0 < chip → has_end ends chip ≡ eqb (ends / 2 ^ (chip - 1) % 2) 1
unfolding has_end
end_at ends zero h = absurd (not-suc-le-zero h)
end_at ends (suc place) h = let e : suc place - 1 ≡ place = omega arith in ap (λ n. eqb (ends / 2 ^ n % 2) 1) (sym e)

-- a set below 2 ^ p holds no chip above p
pub no_end_above : (p ends chip : ℕ) → ends < 2 ^ p → p < chip → has_end ends chip ≡ false
no_end_above p ends chip l h =
    let few : ends < 2 ^ (chip - 1) = (let w : 2 ^ p ≤ 2 ^ (chip - 1) = pow_mono (omega arith) in omega arith) in
    end_at ends chip (omega arith) ∙ ap (λ n. eqb (n % 2) 1) (div-eq_of_lt few)

-- nor a number that is no chip from 1 to p
pub no_end_outside : (p ends chip : ℕ) → ends < 2 ^ p → (1 ≤ chip → chip ≤ p → ⊥) → has_end ends chip ≡ false
no_end_outside p ends chip l out = ⊎_elim (λ h. ap (has_end ends) (zero_is h) ∙ no_chip_zero ends) (λ h. no_end_above p ends chip l (above h)) (cases_lt chip 1)
  where
    zero_is : chip < 1 → chip ≡ 0
    zero_is h = omega arith

    above : 1 ≤ chip → p < chip
    above h = ⊎_elim (λ l. l) (λ l. absurd (out h l)) (cases_lt p chip)

-- so an end is a chip from 1 to p
pub end_low : (ends chip : ℕ) → has_end ends chip ≡ true → 1 ≤ chip
end_low ends zero e = absurd (false≢true (sym (no_chip_zero ends) ∙ e))
end_low ends (suc place) e = omega arith

pub end_high : (p ends chip : ℕ) → ends < 2 ^ p → has_end ends chip ≡ true → chip ≤ p
end_high p ends chip h e = ⊎_elim (λ l. absurd (false≢true (sym (no_end_above p ends chip h l) ∙ e))) (λ l. l) (cases_lt p chip)

-- a shift by p that leaves nothing shows a set below 2 ^ p
pub ends_test : (p ends : ℕ) → 2 ≤ ones ends → eqb (ends / 2 ^ p) 0 ≡ are_ends p ends
ends_test p ends two =
    let t : leb 2 (ones ends) ≡ true = le-leb 2 (ones ends) two in
    shifted (cases_lt ends (2 ^ p)) ∙ sym (ap (λ b. b && ltb ends (2 ^ p)) t)
  where
    shifted : (ends < 2 ^ p) ⊎ (2 ^ p ≤ ends) → eqb (ends / 2 ^ p) 0 ≡ ltb ends (2 ^ p)
    shifted (inl l) = ap (λ n. eqb n 0) (div-eq_of_lt l) ∙ sym (lt-ltb ends (2 ^ p) l)
    shifted (inr h) =
        let one : 1 ≤ ends / 2 ^ p = le-div 1 ends (2 ^ p) (pow_pos p) (omega arith) in
        ne_eqb (ends / 2 ^ p) 0 (omega arith) ∙ sym (le-ltb ends (2 ^ p) h)
