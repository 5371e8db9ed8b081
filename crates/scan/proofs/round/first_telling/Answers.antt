use Rattle.std.proofs.Common.{◌≡◌, None, ◌∙◌, rules}
use Rattle.scan.specs.Rounds.{tells}
use Rattle.scan.proofs.Rounds.{step_over}
use Rattle.scan.proofs.round.first_telling.Goals as goal

pub loop-reading-preserved : goal.loop-reading-preserved
loop-reading-preserved c =
    let quiet : tells c.in-Some.reading.standing ≡ None = search rules in
    step_over c.args.values.now.slots c.args.numbers.now c.loop-reading.place c.in-Some.reading c.in-Some.ensures.exact quiet ∙ c.loop-reading.invariant
