-- What is found around a formula: the first clause that tells something, being all false or forcing.
use Rattle.std.specs.Prelude.{◌≡◌, ℕ, zero, suc, ◌+◌, if◌then◌else◌, ◌&&◌, List, [], ◌∷◌, length, take, drop, ℤ, pos, nat_lt, slice_index_or, Some, None, Option}
use Rattle.std.specs.List.{ContainsAt, AllByRecursion}
use Rattle.sat.specs.Formula.{is_zero, clauses_of}
use Rattle.scan.specs.Clauses.{judged}
use Rattle.scan.specs.declared.value.Value.{Value}
use Rattle.scan.specs.declared.clause.Standing.{Standing}
use Rattle.scan.specs.declared.clause.Standing.TheVariants.{Undecided, Satisfied, AllFalse, Forcing}
use Rattle.scan.specs.declared.round.Telling.{Telling}
use Rattle.scan.specs.declared.round.Telling.TheVariants.{Conflict, Forced}
use Rattle.scan.specs.declared.round.Round.{Round}

-- what a clause tells, if anything
abbrev pub tells : Standing → Option Telling
tells Undecided = None
tells Satisfied = None
tells AllFalse = Some Conflict
tells (Forcing z) = Some (Forced z)

-- what a clause tells that ends at a place, or else what the later ones do
abbrev pub or_later : Option Telling → ℕ → Round → Round
or_later None place later = later
or_later (Some telling) place later = record { found = Some telling; next = place }

-- the first telling one of the clauses that begin at a place, and where the next one begins
abbrev pub first_telling : List Value → ℕ → List (List ℤ) → Round
first_telling values place [] = record { found = None; next = place }
first_telling values place (clause ∷ clauses) =
    or_later (tells (judged values clause)) (place + length clause + 1) (first_telling values (place + length clause + 1) clauses)

-- the proposed place if it is the first or behind a 0, else the first
abbrev pub start_of : List ℤ → ℕ → ℕ
start_of formula zero = 0
start_of formula (suc n) = if nat_lt n (length formula) && is_zero (slice_index_or formula n (pos 0)) then suc n else 0

-- the first telling clause from a place to the end, or else from the first number to that place
abbrev pub round_from : List Value → List ℤ → ℕ → Round
round_from values formula start =
    or_later (first_telling values start (clauses_of (drop start formula))).found (first_telling values start (clauses_of (drop start formula))).next
    (first_telling values 0 (clauses_of (take start formula)))

-- a round, from where it is proposed to begin
abbrev pub round : List Value → List ℤ → ℕ → Round
round values formula proposed = round_from values formula (start_of formula proposed)

-- what was found is so: no clause tells anything, or one of them is all false, or one of them forces the literal
abbrev pub Finds : List Value → List (List ℤ) → Option Telling → Type 0
Finds values clauses None = AllByRecursion (λ clause. tells (judged values clause) ≡ None) clauses
Finds values clauses (Some Conflict) = (clause : List ℤ) × ContainsAt clauses clause × (judged values clause ≡ AllFalse)
Finds values clauses (Some (Forced z)) = (clause : List ℤ) × ContainsAt clauses clause × (judged values clause ≡ Forcing z)
