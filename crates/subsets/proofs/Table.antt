-- A table of counts, row after row: that it keeps Pascal's rule is one test, which antt computes over all of its entries.
use Rattle.std.proofs.Common.{◌≡◌, ℕ, zero, suc, ◌+◌, ◌*◌, ◌<◌, Bool, true, cond, eqb, List, get_or, Some, None, ◌∙◌, arith, eqb-true}
use Rattle.std.proofs.lemmas.Bool.Decides.{nat_tests}
use Rattle.subsets.specs.Choose.{known, subset_count, tabled}
use Rattle.subsets.proofs.Each.{each, each_at}

-- what Pascal's rule wants in row d and column s of a table t whose rows have w entries:
-- 1 in the first column, else 0 in the first row, else the sum of two entries of the row above
abbrev pub ruled : ℕ → List ℕ → ℕ → ℕ → ℕ
ruled w t d zero = 1
ruled w t zero (suc s) = 0
ruled w t (suc d) (suc s) = get_or t (d * w + s) 0 + get_or t (d * w + suc s) 0

-- the entry in row d and column s is what the rule wants
abbrev pub right : ℕ → List ℕ → ℕ → ℕ → Bool
right w t d s = eqb (get_or t (d * w + s) 0) (ruled w t d s)

-- and so is each entry of the first n rows
abbrev pub keeps : ℕ → ℕ → List ℕ → Bool
keeps w n t = each (λ d. each (right w t d) w) n

module _ (w n : ℕ) (t : List ℕ) (kept : keeps w n t ≡ true) where
  at : (d s : ℕ) → d < n → s < w → get_or t (d * w + s) 0 ≡ ruled w t d s
  at d s p q = eqb-true _ _ (each_at (right w t d) w s (each_at (λ d. each (right w t d) w) n d kept p) q)

  -- so each entry is the count that it stands for
  pub entry : (d s : ℕ) → d < n → s < w → get_or t (d * w + s) 0 ≡ subset_count d s
  unfolding subset_count
  entry d zero p q = at d 0 p q
  entry zero (suc s) p q = at 0 (suc s) p q
  entry (suc d) (suc s) p q =
      let above = entry d s (omega arith) (omega arith) in
      let beside = entry d (suc s) (omega arith) (omega arith) in
      at (suc d) (suc s) p q ∙ simp (above, beside)

-- what stands at the place of d and s is the count
pub found : (t : List ℕ) → keeps 6 33 t ≡ true → (d s k : ℕ) → Some k ≡ cond (known d s) (Some (d * 6 + s)) None → Some (get_or t k 0) ≡ tabled d s
found t h d s k e = grind (arith, nat_tests, entry 6 33 t h d s)

-- and where there is no place there is no count
pub missing : (d s : ℕ) → None ≡ cond (known d s) (Some (d * 6 + s)) None → tabled d s ≡ None
missing d s e = grind (arith, nat_tests)
