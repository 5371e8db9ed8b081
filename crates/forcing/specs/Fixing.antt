-- What forcing makes of a partial valuation, and what it fixes of a question.
use Rattle.std.specs.Prelude.{◌≡◌, ℕ, Bool, true, false, if◌then◌else◌, List, ℤ, Some, None}
use Rattle.std.specs.List.{AllByRecursion}
use Rattle.sat.specs.Formula.{satisfied, clauses_of}
use Rattle.sat.specs.Question.{Answers, Models}
use Rattle.sat.specs.declared.question.Question.{Question}
use Rattle.scan.specs.Values.{reads, Agrees}
use Rattle.scan.specs.Rounds.{Finds}
use Rattle.scan.specs.declared.round.Telling.TheVariants.{Conflict}
use Rattle.scan.specs.declared.value.Value.{Value}
use Rattle.scan.specs.declared.value.Value.TheVariants.{True}
use Rattle.forcing.specs.Listing.{fixed_up_to}

-- forcing has ended: true literals stay true, what is fixed is implied by the clauses, and no clause tells more, or one is all false
pub record Forces (formula : List ℤ) (before after : List Value) (quiet : Bool) : Type 0 where
  pub keeps : (z : ℤ) → reads before z ≡ True → reads after z ≡ True
  pub implies : (m : List ℕ) → AllByRecursion (λ clause. satisfied m clause ≡ true) (clauses_of formula) → Agrees before m → Agrees after m
  pub ended : Finds after (clauses_of formula) (if quiet then None else Some Conflict)

-- what is fixed of a question: every assumed literal, and only what holds in every model; no clause tells more of it
pub record Fixed (v : ℕ) (formula assumed : List ℤ) (values : List Value) : Type 0 where
  pub keeps : AllByRecursion (λ z. reads values z ≡ True) assumed
  pub implied : (m : List ℕ) → Models v formula assumed m → Agrees values m
  pub ended : Finds values (clauses_of formula) None

-- a list of all that is fixed of a question, each variable once
pub record Lists (v : ℕ) (formula assumed listed : List ℤ) : Type 0 where
  pub values : List Value
  pub fixed : Fixed v formula assumed values
  pub exact : listed ≡ fixed_up_to values v

-- the list is of all that is fixed of the question, and where it is not the question has no model
abbrev pub Fixes : Question → List ℤ → Bool → Type 0
Fixes question listed false = (m : List ℕ) → Answers question m → ⊥
Fixes question listed true = Lists question.variables question.formula.now question.assumed.now listed
