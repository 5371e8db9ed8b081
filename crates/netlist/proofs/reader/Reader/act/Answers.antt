use Rattle.std.proofs.Common.{rules}
use Rattle.netlist.proofs.Acting.{acts}
use Rattle.netlist.proofs.reader.Reader.act.Goals as goal

pub returns : goal.returns
returns c = acts c.next_line.ensures c.in_ok-edit.ensures.ok_part _ _ c.apply.ensures.leaves _ c.apply.ensures.answers c.map_err.ensures.cases (λ cause fault told. search rules)
