-- What a search finds.
use Rattle.std.specs.Prelude.{ℕ, List, Some, None, Option}
use Rattle.sat.specs.Question.{Answers}
use Rattle.sat.specs.declared.question.Question.{Question}
use Rattle.scan.specs.Values.{read_off}
use Rattle.scan.specs.declared.values.Values.{Values}

-- values from which a valuation is read off that answers the question, or none where no valuation does
abbrev pub Answering : Question → Option Values → Type 0
Answering question None = (valuation : List ℕ) → Answers question valuation → ⊥
Answering question (Some values) = Answers question (read_off question.variables values.slots)
