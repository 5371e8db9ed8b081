use Rattle.std.proofs.Common.{refl, arith}
use Rattle.board.specs.Rows.{load, ends_on}
use Rattle.board.proofs.Rows.{count_more, count_all}
use Rattle.board.proofs.table.Table.load.Goals as goal
use Rattle.board.proofs.table.Table.load.Goals.{then-ends_on, else-ends_on}

pub loop-row-init : goal.loop-row-init
unfolding load
loop-row-init c = (refl, omega arith)

pub loop-row-preserved : goal.loop-row-preserved
unfolding load
loop-row-preserved c =
    count_more (ends_on c.args.chip) c.args.self.now.rows c.loop-row.row-index c.loop-row.count c.if-ends_on.count
    (let n = c.args.self.now.long in omega arith) c.loop-row.invariant
    (elim c.if-ends_on.branch [ then-ends_on w ↦ grind arith | else-ends_on w ↦ grind arith ])

pub returns : goal.returns
unfolding load
returns c =
    record {
      value = count_all (ends_on c.args.chip) c.args.self.now.rows c.loop-row.row-index c.loop-row.count (let n = c.args.self.now.long in omega arith) c.loop-row.invariant.0;
      bound = omega arith;
    }
