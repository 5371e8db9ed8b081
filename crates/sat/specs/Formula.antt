-- What a formula says.
-- A formula is a list of numbers in which every clause ends with 0. Any other number is a literal: n stands for variable n true, -n for it false.
-- A valuation is a list of bytes, variable n at place n - 1, 1 for true and 0 for false.
use Rattle.std.specs.Prelude.{ℕ, zero, suc, ◌-◌, Bool, true, false, if◌then◌else◌, not, ◌||◌, List, [], ◌∷◌, ◌++◌, length, ℤ, pos, negsuc, ◌==◌, nat_le, slice_index, slice_index_or, unsigned_abs}
use Rattle.std.specs.List.{list_all}

-- the variable that a literal names: n for n and for -n
abbrev pub variable : ℤ → ℕ
variable z = unsigned_abs z

-- the number that ends a clause
abbrev pub is_zero : ℤ → Bool
is_zero (pos zero) = true
is_zero (pos (suc n)) = false
is_zero (negsuc n) = false

-- a literal is true where the valuation gives its variable the value that it stands for; 0 is no literal
abbrev pub is_true : List ℕ → ℤ → Bool
is_true values (pos zero) = false
is_true values (pos (suc n)) = slice_index values n == 1
is_true values (negsuc n) = slice_index values n == 0

-- a clause is satisfied by a true literal
abbrev pub satisfied : List ℕ → List ℤ → Bool
satisfied values [] = false
satisfied values (z ∷ clause) = is_true values z || satisfied values clause

-- puts a literal in front of the first clause
abbrev pub into_first : ℤ → List (List ℤ) → List (List ℤ)
into_first z [] = []
into_first z (clause ∷ clauses) = (z ∷ clause) ∷ clauses

-- the clauses of a formula, each without its 0; numbers behind the last 0 belong to no clause
abbrev pub clauses_of : List ℤ → List (List ℤ)
clauses_of [] = []
clauses_of (z ∷ numbers) = if is_zero z then [] ∷ clauses_of numbers else into_first z (clauses_of numbers)

-- the formula of a list of clauses
abbrev pub encode : List (List ℤ) → List ℤ
encode [] = []
encode (clause ∷ clauses) = clause ++ (pos 0 ∷ encode clauses)

-- the test passes at every number of the list
abbrev pub every : (ℤ → Bool) → List ℤ → Bool
every test zs = list_all test zs

-- no literal names a variable above v
abbrev pub within : ℕ → List ℤ → Bool
within v zs = every (λ z. nat_le (variable z) v) zs

-- no number of the list is 0
abbrev pub literals : List ℤ → Bool
literals zs = every (λ z. not (is_zero z)) zs

-- a formula is closed where it is empty or its last number is 0
abbrev pub closed : List ℤ → Bool
closed formula = is_zero (slice_index_or formula (length formula - 1) (pos 0))
