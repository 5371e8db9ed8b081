-- The counts C(d, s): Pascal's rule, how they grow, and those that the table holds.
use Rattle.std.proofs.Common.{◌≡◌, ℕ, zero, suc, ◌+◌, ◌<◌, ◌≤◌, leb, ◌⊎◌, Some, None, refl, zero-le, add-one, arith, leb-true}
use Rattle.std.proofs.lemmas.Bool.Decides.{nat_tests}
use Rattle.subsets.specs.Choose.{subset_count, tabled}
use Rattle.subsets.proofs.Each.{each_at}

-- a set has one subset of no element
pub count_none : (d : ℕ) → subset_count d 0 ≡ 1
unfolding subset_count
count_none d = refl

-- the empty set has no other
pub count_empty : (s : ℕ) → subset_count 0 (suc s) ≡ 0
unfolding subset_count
count_empty s = refl

-- a subset of a set with one more element holds that element or does not
pub count_more : (d s : ℕ) → subset_count (suc d) (suc s) ≡ subset_count d s + subset_count d (suc s)
unfolding subset_count
count_more d s = refl

-- the same at d + 1 and s + 1
pub count_add_one : (d s : ℕ) → subset_count (d + 1) (s + 1) ≡ subset_count d s + subset_count d (s + 1)
count_add_one d s = simp (add-one, count_more)

-- a larger set has at least as many
pub count_grows : (s d e : ℕ) → d ≤ e → subset_count d s ≤ subset_count e s
unfolding subset_count
count_grows zero d e h = omega arith
count_grows (suc s) zero e h = zero-le
count_grows (suc s) (suc d) zero h = omega arith
count_grows (suc s) (suc d) (suc e) h =
    omega (arith, count_grows s d e (omega arith), count_grows (suc s) d e (omega arith))

-- of 32 elements, by one test that antt computes over the sizes
of_32 : (s : ℕ) → s < 6 → subset_count 32 s ≤ 201376
unfolding subset_count
of_32 s h = leb-true _ _ (each_at (λ i. leb (subset_count 32 i) 201376) 6 s refl h)

-- no count that the table knows is larger than C(32, 5)
pub count_at_most : (d s : ℕ) → d ≤ 32 → s ≤ 5 → subset_count d s ≤ 201376
count_at_most d s p q = omega (arith, count_grows s d 32 p, of_32 s (omega arith))

-- what the table answers within its limits, and past each of them
pub tabled-within : (d s : ℕ) → d ≤ 32 → s ≤ 5 → tabled d s ≡ Some (subset_count d s)
tabled-within d s p q = grind (arith, nat_tests)

pub tabled_past_set : (d s : ℕ) → 32 < d → tabled d s ≡ None
tabled_past_set d s p = grind (arith, nat_tests)

pub tabled_past_subset : (d s : ℕ) → 5 < s → tabled d s ≡ None
tabled_past_subset d s p = grind (arith, nat_tests)

-- what an answer of the table says
pub tabled_some : (d s n : ℕ) → Some n ≡ tabled d s → n ≡ subset_count d s
tabled_some d s n e = grind (arith, nat_tests)

pub tabled_at_most : (d s n : ℕ) → Some n ≡ tabled d s → n ≤ 201376
tabled_at_most d s n e = grind (arith, nat_tests, count_at_most d s)

pub tabled_none : (d s : ℕ) → None ≡ tabled d s → (32 < d) ⊎ (5 < s)
tabled_none d s e = grind (arith, nat_tests)
