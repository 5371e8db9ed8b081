use Rattle.std.proofs.Common.{◌≡◌, drop}
use Rattle.scan.proofs.Assuming.{outcome}
use Rattle.scan.proofs.values.Values.assume.Given as goal

abbrev pub invariant-loop-literal : goal.invariant-loop-literal
invariant-loop-literal l = outcome l.self (drop l.literal-index l.literals) ≡ outcome l.initial.self l.literals
