use Rattle.std.proofs.Common.{◌≡◌, ℕ, ◌+◌, ◌<◌, get_or}
use Rattle.scan.specs.Values.{by_value}
use Rattle.scan.specs.declared.value.Value.TheVariants.{Open}
use Rattle.search.proofs.solver.write_values.Given as goal

abbrev pub invariant-loop-i : goal.invariant-loop-i
invariant-loop-i l = (k : ℕ) → k < l.i → get_or l.valuation k 0 ≡ by_value (get_or l.values.slots (k + 1) Open) 0 1 0
