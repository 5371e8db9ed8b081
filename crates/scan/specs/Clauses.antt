-- What a clause is under a partial valuation: satisfied, all false, forcing or undecided.
use Rattle.std.specs.Prelude.{◌≡◌, ℕ, ◌+◌, Bool, true, false, if◌then◌else◌, ◌||◌, ◌⊎◌, List, [], ◌∷◌, length, ℤ, Some, None, filter, Option}
use Rattle.std.specs.List.{ContainsAt, AllByRecursion}
use Rattle.std.specs.Ordering.{int_eq}
use Rattle.sat.specs.Formula.{every}
use Rattle.scan.specs.Values.{by_value, reads}
use Rattle.scan.specs.declared.value.Value.{Value}
use Rattle.scan.specs.declared.value.Value.TheVariants.{Open, True, False}
use Rattle.scan.specs.declared.clause.Standing.{Standing}
use Rattle.scan.specs.declared.clause.Standing.TheVariants.{Undecided, Satisfied, AllFalse, Forcing}
use Rattle.scan.specs.declared.clause.Reading.{Reading}

abbrev pub is_open : Value → Bool
is_open value = by_value value true false false

abbrev pub is_held : Value → Bool
is_held value = by_value value false true false

-- a literal of the clause is true
abbrev pub held : List Value → List ℤ → Bool
held values [] = false
held values (z ∷ zs) = is_held (reads values z) || held values zs

-- the open literals of the clause
abbrev pub open_in : List Value → List ℤ → List ℤ
open_in values clause = filter (λ z. is_open (reads values z)) clause

-- a clause without a true literal, by its open literals: none, one (which may be repeated), or several
abbrev pub by_open : List ℤ → Standing
by_open [] = AllFalse
by_open (z ∷ zs) = if every (int_eq z) zs then Forcing z else Undecided

-- what a clause is
abbrev pub judged : List Value → List ℤ → Standing
judged values clause = if held values clause then Satisfied else by_open (open_in values clause)

-- what is so of a clause that is judged to be this
abbrev pub Means : List Value → List ℤ → Standing → Type 0
Means values clause Undecided = (z : ℤ) × ContainsAt clause z × (reads values z ≡ Open)
Means values clause Satisfied = (z : ℤ) × ContainsAt clause z × (reads values z ≡ True)
Means values clause AllFalse = AllByRecursion (λ z. reads values z ≡ False) clause
Means values clause (Forcing last) = ContainsAt clause last × (reads values last ≡ Open) × AllByRecursion (λ z. (z ≡ last) ⊎ (reads values z ≡ False)) clause

-- a clause with one open literal more
abbrev pub with_open : Standing → ℤ → Standing
with_open Undecided z = Undecided
with_open Satisfied z = Satisfied
with_open AllFalse z = Forcing z
with_open (Forcing first) z = if int_eq first z then Forcing first else Undecided

-- the first of the clauses that begin at a place: what it is, and where the next begins
abbrev pub reading : List Value → ℕ → List (List ℤ) → Option Reading
reading values place [] = None
reading values place (clause ∷ clauses) = Some (record { standing = judged values clause; next = place + length clause + 1 })

-- what was read says the truth of the first clause
abbrev pub Told : List Value → List (List ℤ) → Option Reading → Type 0
Told values clauses None = clauses ≡ []
Told values [] (Some r) = ⊥
Told values (clause ∷ clauses) (Some r) = Means values clause r.standing
