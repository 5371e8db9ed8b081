-- Evaluating tells whether a valuation answers a question.
use Rattle.std.proofs.Common.{◌≡◌, ℕ, ◌≤◌, ◌↔◌, Bool, List, length, All, ℤ, IsTrue, sym, ◌∙◌}
use Rattle.std.proofs.lemmas.List.Elements.{recursion_from_All}
use Rattle.sat.specs.Question.{Models}
use Rattle.odometer.specs.Candidate.{answers_all}
use Rattle.odometer.proofs.Clauses.{models_from_answers, answers_from_models}

-- of a byte 0 or 1 for each variable
pub answers_tell : (v : ℕ) (formula assumed : List ℤ) (values : List ℕ) (r : Bool) → length values ≡ v → All (λ byte. byte ≤ 1) values →
    r ≡ answers_all values formula assumed → IsTrue r ↔ Models v formula assumed values
answers_tell v formula assumed values r size bits e = (
  (λ t. models_from_answers v formula assumed values size (recursion_from_All (λ byte. byte ≤ 1) values bits) (sym e ∙ t)),
  (λ m. e ∙ answers_from_models v formula assumed values m),
)
