use Rattle.std.proofs.Common.{◌-◌}
use Rattle.netlist.proofs.Numbers.{Over}
use Rattle.netlist.proofs.reader.Reader.number.Given as goal

abbrev pub invariant-loop-digit : goal.invariant-loop-digit
invariant-loop-digit l = Over l.fn.self l.value l.self

abbrev pub decreases-loop-digit : goal.decreases-loop-digit
decreases-loop-digit l = 1000 - l.value
