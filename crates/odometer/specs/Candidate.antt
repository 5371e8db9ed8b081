-- Whether a valuation answers a question, as a test.
use Rattle.std.specs.Prelude.{ℕ, Bool, true, false, ◌&&◌, List, [], ◌∷◌, ℤ}
use Rattle.std.specs.List.{list_all}
use Rattle.sat.specs.Formula.{is_true, satisfied, clauses_of, every}

-- every clause has a true literal
abbrev pub all_satisfied : List ℕ → List (List ℤ) → Bool
all_satisfied values clauses = list_all (satisfied values) clauses

-- every clause is satisfied, where of the first one only its first true literal and what is behind it are left, or nothing if none is true
abbrev pub cut_satisfied : List ℕ → List (List ℤ) → Bool
cut_satisfied values [] = true
cut_satisfied values ([] ∷ clauses) = false
cut_satisfied values ((z ∷ clause) ∷ clauses) = all_satisfied values clauses

-- every assumed literal is true, and a literal of every clause
abbrev pub answers_all : List ℕ → (formula assumed : List ℤ) → Bool
answers_all values formula assumed = every (is_true values) assumed && all_satisfied values (clauses_of formula)
