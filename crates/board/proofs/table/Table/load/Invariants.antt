use Rattle.std.proofs.Common.{◌≡◌, ◌≤◌, take}
use Rattle.board.specs.Rows.{load}
use Rattle.board.proofs.table.Table.load.Given as goal

abbrev pub invariant-loop-row : goal.invariant-loop-row
invariant-loop-row l = (l.count ≡ load l.chip (take l.row-index l.self.rows)) × (l.count ≤ l.row-index)
