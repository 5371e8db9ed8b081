use Rattle.std.proofs.Common.{◌-◌}
use Rattle.scan.specs.Values.{Closed}
use Rattle.search.proofs.state.State.lowest_open.Given as goal

abbrev pub invariant-loop-n : goal.invariant-loop-n
invariant-loop-n l = Closed (l.n - 1) l.self.values.slots
