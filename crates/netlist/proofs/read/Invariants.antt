use Rattle.std.proofs.Common.{length}
use Rattle.board.specs.Views.{held_open}
use Rattle.netlist.specs.Place.{rest}
use Rattle.netlist.proofs.Progress.{Going}
use Rattle.netlist.proofs.read.Given as goal

abbrev pub invariant-loop-is_left : goal.invariant-loop-is_left
invariant-loop-is_left l = Going l.text l.reader (held_open l.fresh) l.is_left

abbrev pub decreases-loop-is_left : goal.decreases-loop-is_left
decreases-loop-is_left l = length (rest l.reader)
