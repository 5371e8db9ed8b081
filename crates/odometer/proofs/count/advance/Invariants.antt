use Rattle.std.proofs.Common.{◌≡◌, ◌++◌, take, drop}
use Rattle.odometer.specs.Counter.{next, has_zero}
use Rattle.odometer.proofs.count.advance.Given as goal

abbrev pub invariant-loop-byte : goal.invariant-loop-byte
invariant-loop-byte l =
    (take l.byte-index l.values ++ next (drop l.byte-index l.values) ≡ next l.initial.values) × (has_zero (drop l.byte-index l.values) ≡ has_zero l.initial.values)
