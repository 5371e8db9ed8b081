use Rattle.board.proofs.Rows.{empty_good, empty_loads}
use Rattle.board.proofs.open.OpenBoard.make.Goals as goal

pub invariant_of-self : goal.invariant_of-self
invariant_of-self c =
    record {
      good = empty_good _ _ c.empty.result.rows c.empty.ensures;
      loads = empty_loads _ c.empty.result.rows c.empty.ensures;
    }
