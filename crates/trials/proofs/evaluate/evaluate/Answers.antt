use Rattle.std.proofs.Common.{◌≡◌, ◌↔◌, length, take, IsTrue, subst, arith}
use Rattle.std.proofs.lemmas.Grind.{common_steps}
use Rattle.sat.specs.Question.{Models}
use Rattle.trials.proofs.Evaluations.{answers_tell}
use Rattle.trials.proofs.evaluate.evaluate.Goals as goal

pub returns-then-all_bits : goal.returns-then-all_bits
returns-then-all_bits c =
    let question = c.args.question in
    let found = c.in-Some.ensures.lookup.0 in
    let size : length c.in-Some.values.now ≡ question.variables = omega arith in
    let front : c.in-Some.values.now ≡ take question.variables c.args.valuation.now = grind (arith, common_steps) in
    subst (λ bytes. IsTrue c.answers.result ↔ Models question.variables question.formula.now question.assumed.now bytes) front
    (answers_tell _ _ _ _ _ size (c.all_bits.ensures.0 c.if-all_bits.true) c.answers.ensures)
