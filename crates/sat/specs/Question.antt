-- What a solver means: which valuations answer a question, which questions are refused, and what `solve` leaves.
-- A question is a number of variables v, a formula and a list of assumed literals.
use Rattle.std.specs.Prelude.{◌≡◌, ℕ, ◌+◌, ◌%◌, ◌^◌, ◌≤◌, Bool, true, if◌then◌else◌, not, ◌&&◌, List, length, take, drop, replicate, ℤ, Some, None, Ok, Err, Option, Result, codes, nat_lt}
use Rattle.std.specs.List.{AllByRecursion}
use Rattle.sat.specs.Formula.{is_true, satisfied, clauses_of, within, closed, literals}
use Rattle.sat.specs.declared.question.Question.{Question}
use Rattle.sat.specs.declared.question.Refusal.{Refusal}
use Rattle.sat.specs.declared.question.Refusal.TheVariants.{TooManyVariables, IllFormed, ShortValuation}
use Rattle.sat.specs.declared.question.Verdict.{Verdict}
use Rattle.sat.specs.declared.question.Verdict.TheVariants.{Yes, No}

-- the valuation answers the question: a byte 0 or 1 for each variable, a true literal in every clause, every assumed literal true
pub record Models (v : ℕ) (formula assumed : List ℤ) (values : List ℕ) : Type 0 where
  pub size : length values ≡ v
  pub bits : AllByRecursion (λ byte. byte ≤ 1) values
  pub clauses : AllByRecursion (λ clause. satisfied values clause ≡ true) (clauses_of formula)
  pub kept : AllByRecursion (λ z. is_true values z ≡ true) assumed

-- the valuation answers a question that is put to a solver
abbrev pub Answers : Question → List ℕ → Type 0
Answers question values = Models question.variables question.formula.now question.assumed.now values

-- a question is well formed: the formula is empty or ends with 0, no literal names a variable above v, no assumed literal is 0
abbrev pub well_formed : ℕ → List ℤ → List ℤ → Bool
well_formed v formula assumed = closed formula && (within v formula && (within v assumed && literals assumed))

-- why a solver declines a question, with room for so many bytes of a valuation: the first of the three that applies
abbrev pub refusal : (largest v : ℕ) → List ℤ → List ℤ → (room : ℕ) → Option Refusal
refusal largest v formula assumed room =
    if nat_lt largest v then Some TooManyVariables
    else (if not (well_formed v formula assumed) then Some IllFormed
    else (if nat_lt room v then Some (ShortValuation v)
    else None))

-- the same two of a question that is put to a solver
abbrev pub is_well_formed : Question → Bool
is_well_formed question = well_formed question.variables question.formula.now question.assumed.now

abbrev pub refusal_of : (largest : ℕ) → Question → (room : ℕ) → Option Refusal
refusal_of largest question room = refusal largest question.variables question.formula.now question.assumed.now room

-- the number of each refusal
abbrev pub number : Refusal → ℕ
number TooManyVariables = 9
number IllFormed = 10
number (ShortValuation needed) = 11

-- a verdict in print
abbrev pub word : Verdict → List ℕ
word Yes = codes "yes"
word No = codes "no"

-- the answer is true, and the first v bytes go with it: a valuation that answers the question, or zeros where none does
abbrev pub Truth : (v : ℕ) (formula assumed : List ℤ) (front : List ℕ) → Result Verdict Refusal → Type 0
Truth v formula assumed front (Ok Yes) = Models v formula assumed front
Truth v formula assumed front (Ok No) = (front ≡ replicate v 0) × ((values : List ℕ) → Models v formula assumed values → ⊥)
Truth v formula assumed front (Err e) = ⊥

-- a declined question: nothing is altered
pub record Refused {S : Type 0} (e : Refusal) (before after : S) (was is : List ℕ) (r : Result Verdict Refusal) : Type 0 where
  pub result : r ≡ Err e
  pub solver : after ≡ before
  pub buffer : is ≡ was

-- an answered question: the tally rises by one, the largest stays, and so do the bytes behind the valuation
pub record Answered {S : Type 0} (largest tally : S → ℕ) (v : ℕ) (formula assumed : List ℤ) (before after : S) (was is : List ℕ) (r : Result Verdict Refusal) : Type 0 where
  pub bound : largest after ≡ largest before
  pub count : tally after ≡ (tally before + 1) % 2 ^ 32
  pub truth : Truth v formula assumed (take v is) r
  pub behind : drop v is ≡ drop v was

-- what `solve` does with any question: it refuses exactly where `refusal` names a reason, and else answers
pub record Solved {S : Type 0} (largest tally : S → ℕ) (v : ℕ) (formula assumed : List ℤ) (before after : S) (was is : List ℕ) (r : Result Verdict Refusal) : Type 0 where
  pub refused : (e : Refusal) → refusal (largest before) v formula assumed (length was) ≡ Some e → Refused e before after was is r
  pub answered : refusal (largest before) v formula assumed (length was) ≡ None → Answered largest tally v formula assumed before after was is r

-- the same of a question that is put to a solver
abbrev pub Solves : {S : Type 0} (largest tally : S → ℕ) (question : Question) (before after : S) (was is : List ℕ) → Result Verdict Refusal → Type 0
Solves largest tally question before after was is r = Solved largest tally question.variables question.formula.now question.assumed.now before after was is r
