use Rattle.std.proofs.Common.{length}
use Rattle.netlist.specs.Place.{rest}
use Rattle.netlist.proofs.Listed.{Listed}
use Rattle.netlist.proofs.reader.Reader.chips.Given as goal

abbrev pub invariant-loop-self : goal.invariant-loop-self
invariant-loop-self l = Listed l.fn.self l.ends l.self

abbrev pub decreases-loop-self : goal.decreases-loop-self
decreases-loop-self l = length (rest l.self)
