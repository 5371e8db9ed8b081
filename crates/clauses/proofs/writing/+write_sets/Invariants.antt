use Rattle.std.proofs.Common.{length}
use Rattle.clauses.proofs.writing.+write_sets.Given as goal

abbrev pub decreases-write_sets : goal.decreases-write_sets
decreases-write_sets l = length l.literals.now
