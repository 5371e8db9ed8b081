use Rattle.std.proofs.Common.{arith}
use Rattle.clauses.proofs.Spelling.{length_head}
use Rattle.clauses.proofs.lengths.head_length.Goals as goal

pub returns-clause-value : goal.returns-clause-value
returns-clause-value c = omega (arith, length_head c.args.measure.variables c.args.measure.clauses)
