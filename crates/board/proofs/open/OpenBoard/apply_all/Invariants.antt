use Rattle.board.specs.Views.{held_open}
use Rattle.board.proofs.Edits.{Going}
use Rattle.board.proofs.open.OpenBoard.apply_all.Given as goal

abbrev pub invariant-loop-edit : goal.invariant-loop-edit
invariant-loop-edit l = Going (held_open l.initial.self) l.edits (held_open l.self) l.refused l.edit-index
