use Rattle.std.proofs.Common.{◌≡◌, rules}
use Rattle.scan.specs.Rounds.{round}
use Rattle.scan.proofs.Rounds.{round-tells}
use Rattle.scan.proofs.round.look_around.Goals as goal

pub returns-then-is_some-clause-finds : goal.returns-then-is_some-clause-finds
returns-then-is_some-clause-finds c =
    let e : c.first_telling-ahead.result ≡ round c.args.values.now.slots c.args.formula.now c.args.proposed = search rules in
    round-tells c.args.values.now.slots c.args.formula.now c.args.proposed c.first_telling-ahead.result e

pub returns-else-is_some-clause-finds : goal.returns-else-is_some-clause-finds
returns-else-is_some-clause-finds c =
    let e : c.first_telling.result ≡ round c.args.values.now.slots c.args.formula.now c.args.proposed = search rules in
    round-tells c.args.values.now.slots c.args.formula.now c.args.proposed c.first_telling.result e
