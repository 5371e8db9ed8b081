use Rattle.std.proofs.Common.{◌≡◌, length}
use Rattle.sat.specs.Formula.{clauses_of}
use Rattle.odometer.specs.Candidate.{all_satisfied}
use Rattle.odometer.proofs.candidate.all_satisfied.Given as goal

abbrev pub invariant-loop-part : goal.invariant-loop-part
invariant-loop-part l = all_satisfied l.values (clauses_of l.rest) ≡ all_satisfied l.values (clauses_of l.formula)

abbrev pub decreases-loop-part : goal.decreases-loop-part
decreases-loop-part l = length l.rest
