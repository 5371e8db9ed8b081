-- Which answer to a question is right, and how it is printed.
use Rattle.std.specs.Prelude.{◌≡◌, ℕ, ◌+◌, ◌%◌, ◌^◌, Bool, true, false, List, [], ◌++◌, ℤ, Some, None, Ok, Err, Result, codes, decimal}
use Rattle.sat.specs.declared.question.Question.{Question}
use Rattle.sat.specs.declared.question.Refusal.{Refusal}
use Rattle.sat.specs.declared.question.Verdict.{Verdict}
use Rattle.sat.specs.declared.question.Verdict.TheVariants.{No, Yes}
use Rattle.sat.specs.Question.{Models, refusal, number, word}
use Rattle.trials.specs.declared.ask.Failure.{Failure}
use Rattle.trials.specs.declared.ask.Failure.TheVariants.{Refused, Wrong}

-- some valuation answers the question
abbrev pub Answerable : (v : ℕ) (formula assumed : List ℤ) → Type 0
Answerable v formula assumed = (values : List ℕ) × Models v formula assumed values

-- yes or no by whether some valuation answers the question, where a solver of this largest does not refuse it
abbrev pub Right : (largest v : ℕ) (formula assumed : List ℤ) (room : ℕ) → Result Verdict Failure → Type 0
Right largest v formula assumed room (Ok No) = (refusal largest v formula assumed room ≡ None) × (Answerable v formula assumed → ⊥)
Right largest v formula assumed room (Ok Yes) = (refusal largest v formula assumed room ≡ None) × Answerable v formula assumed
Right largest v formula assumed room (Err (Refused e)) = refusal largest v formula assumed room ≡ Some e
Right largest v formula assumed room (Err Wrong) = ⊥

-- the same of a question that is put to a solver
abbrev pub RightOf : (largest : ℕ) → Question → (room : ℕ) → Result Verdict Failure → Type 0
RightOf largest question room r = Right largest question.variables question.formula.now question.assumed.now room r

-- true or false by whether some valuation satisfies every clause, where the solver does not refuse the question
abbrev pub Settled : (largest v : ℕ) (formula : List ℤ) (room : ℕ) → Result Bool Refusal → Type 0
Settled largest v formula room (Ok true) = (refusal largest v formula [] room ≡ None) × Answerable v formula []
Settled largest v formula room (Ok false) = (refusal largest v formula [] room ≡ None) × (Answerable v formula [] → ⊥)
Settled largest v formula room (Err e) = refusal largest v formula [] room ≡ Some e

-- the tally after a question that was answered, or was not
abbrev pub counted : (answered : Bool) → ℕ → ℕ
counted true tally = (tally + 1) % 2 ^ 32
counted false tally = tally

-- a refused question is not answered
abbrev pub is_answered : Result Verdict Failure → Bool
is_answered (Ok verdict) = true
is_answered (Err (Refused e)) = false
is_answered (Err Wrong) = true

-- true, false and a refusal as what a solver said
abbrev pub told : Result Bool Refusal → Result Verdict Failure
told (Ok true) = Ok Yes
told (Ok false) = Ok No
told (Err e) = Err (Refused e)

-- how a failure is printed
abbrev pub failure_text : Failure → List ℕ
failure_text (Refused e) = codes "refused " ++ decimal (number e)
failure_text Wrong = codes "wrong"

-- how what a solver said is printed
abbrev pub said_text : Result Verdict Failure → List ℕ
said_text (Ok verdict) = word verdict
said_text (Err failure) = failure_text failure
