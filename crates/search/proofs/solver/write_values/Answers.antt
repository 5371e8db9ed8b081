use Rattle.std.proofs.Common.{ap, ◌∙◌, arith}
use Rattle.scan.specs.Values.{read_off}
use Rattle.search.proofs.Writing.{read_off_all}
use Rattle.search.proofs.solver.write_values.Goals as goal

pub returns : goal.returns
returns c =
    read_off_all c.args.values.now.slots c.loop-i.valuation (omega arith) (λ k h. c.loop-i.invariant k (omega arith))
    ∙ ap (λ n. read_off n c.args.values.now.slots) c.loop-i.auto.valuation
