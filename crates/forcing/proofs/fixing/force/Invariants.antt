use Rattle.scan.specs.Values.{opens}
use Rattle.forcing.proofs.Steps.{Keeps, Implies}
use Rattle.forcing.proofs.fixing.force.Given as goal

abbrev pub invariant-loop-literal : goal.invariant-loop-literal
invariant-loop-literal l = record { keeps : Keeps l.initial.values.slots l.values.slots; implies : Implies l.formula l.initial.values.slots l.values.slots }

abbrev pub decreases-loop-literal : goal.decreases-loop-literal
decreases-loop-literal l = opens l.values.slots
