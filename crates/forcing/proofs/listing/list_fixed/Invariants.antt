use Rattle.std.proofs.Common.{◌≡◌, ◌+◌, ◌-◌, ◌<◌, ◌≤◌, length}
use Rattle.forcing.specs.Listing.{fixed_up_to}
use Rattle.forcing.proofs.listing.list_fixed.Given as goal

abbrev pub invariant-loop-variable : goal.invariant-loop-variable
invariant-loop-variable l = record { in_range : l.variable ≤ l.variables + 1; room : length l.literals.items < l.variable; listed : l.literals.items ≡ fixed_up_to l.values.slots (l.variable - 1) }
