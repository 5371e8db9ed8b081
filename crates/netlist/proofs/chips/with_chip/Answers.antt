use Rattle.std.proofs.Common.{◌≤◌, ◌∙◌, rules}
use Rattle.netlist.proofs.Sets.{with_bit}
use Rattle.netlist.proofs.chips.with_chip.Goals as goal

pub returns : goal.returns
returns c =
    let low : 1 ≤ c.args.chip = search rules in
    let high : c.args.chip ≤ 32 = search rules in
    c.then_some.ensures ∙ with_bit c.args.ends c.args.chip low high
