use Rattle.std.proofs.Common.{◌-◌, ◌^◌, length}
use Rattle.odometer.specs.Counter.{value}
use Rattle.odometer.proofs.Counts.{Tried}
use Rattle.odometer.proofs.count.try_all.Given as goal

abbrev pub invariant-loop-values : goal.invariant-loop-values
invariant-loop-values l = Tried l.question.formula.now l.question.assumed.now l.values

abbrev pub decreases-loop-values : goal.decreases-loop-values
decreases-loop-values l = 2 ^ length l.values - value l.values
