-- The letters of a plan, that is its FPICs by rank: a plan is its net numbers beside its letters.
use Rattle.std.proofs.Common.{◌≡◌, ℕ, List, [], ◌∷◌, map, length, refl, ap, arith}
use Rattle.plans.specs.Plans.{Row}

-- the FPICs of a plan, by rank
abbrev pub letters : List Row → List ℕ
letters plan = map (λ row. row.fpic) plan

-- the plan of these numbers and letters
abbrev pub plan_of : List ℕ → List ℕ → List Row
plan_of [] ls = []
plan_of (n ∷ ns) [] = []
plan_of (n ∷ ns) (l ∷ ls) = record { number = n; fpic = l } ∷ plan_of ns ls

pub plan_of_numbers : (ns ls : List ℕ) → length ns ≡ length ls → map (λ row. row.number) (plan_of ns ls) ≡ ns
plan_of_numbers [] ls e = refl
plan_of_numbers (n ∷ ns) [] e = absurd (omega arith)
plan_of_numbers (n ∷ ns) (l ∷ ls) e = ap (λ rest. n ∷ rest) (plan_of_numbers ns ls (omega arith))

pub plan_of_letters : (ns ls : List ℕ) → length ns ≡ length ls → letters (plan_of ns ls) ≡ ls
plan_of_letters [] [] e = refl
plan_of_letters [] (l ∷ ls) e = absurd (omega arith)
plan_of_letters (n ∷ ns) [] e = absurd (omega arith)
plan_of_letters (n ∷ ns) (l ∷ ls) e = ap (λ rest. l ∷ rest) (plan_of_letters ns ls (omega arith))

pub plan_of_plan : (plan : List Row) → plan_of (map (λ row. row.number) plan) (letters plan) ≡ plan
plan_of_plan [] = refl
plan_of_plan (row ∷ plan) = ap (λ rest. row ∷ rest) (plan_of_plan plan)

-- two plans with the same numbers and the same letters are equal
pub same_plans : (plan other : List Row) → map (λ row. row.number) plan ≡ map (λ row. row.number) other → letters plan ≡ letters other → plan ≡ other
same_plans plan other n l = let p = plan_of_plan plan in let q = plan_of_plan other in cc
