use Rattle.board.proofs.Rows.{empty_good, empty_loads}
use Rattle.board.proofs.open.OpenBoard.blank.Goals as goal

pub invariant_of-result : goal.invariant_of-result
invariant_of-result c =
    record {
      good = empty_good _ _ c.empty.result.rows c.empty.ensures;
      loads = empty_loads _ c.empty.result.rows c.empty.ensures;
    }
