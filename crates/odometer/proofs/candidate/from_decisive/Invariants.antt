use Rattle.std.proofs.Common.{◌≡◌, ◌≤◌, length}
use Rattle.sat.specs.Formula.{clauses_of}
use Rattle.odometer.specs.Candidate.{all_satisfied}
use Rattle.odometer.proofs.candidate.from_decisive.Given as goal

abbrev pub invariant-loop-rest : goal.invariant-loop-rest
invariant-loop-rest l = record { same : all_satisfied l.values (clauses_of l.numbers) ≡ all_satisfied l.values (clauses_of l.rest); shorter : length l.rest ≤ length l.numbers }

abbrev pub decreases-loop-rest : goal.decreases-loop-rest
decreases-loop-rest l = length l.rest
