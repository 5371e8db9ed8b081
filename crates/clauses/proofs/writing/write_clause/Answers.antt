use Rattle.std.proofs.Common.{pos, arith}
use Rattle.clauses.proofs.Filling.{writes_push}
use Rattle.clauses.proofs.writing.write_clause.Goals as goal

pub returns : goal.returns
returns c = writes_push c.write_all-count.ensures (pos 0) (omega arith)
