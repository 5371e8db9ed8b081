use Rattle.std.proofs.Common.{◌≡◌, ◌+◌, cond, get_or, is_err, arith}
use Rattle.board.specs.Held.{answer, judged}
use Rattle.board.specs.Views.{held_open}
use Rattle.board.specs.declared.edit.Edit.TheVariants.{Make}
use Rattle.board.proofs.Edits.{going_more}
use Rattle.board.proofs.open.OpenBoard.apply_all.Goals as goal
use Rattle.board.proofs.open.OpenBoard.apply_all.Goals.{then-is_err, else-is_err}

pub loop-edit-preserved : goal.loop-edit-preserved
loop-edit-preserved c =
    let counted : c.if-is_err.refused ≡ c.loop-edit.refused + cond (is_err (answer (judged (held_open c.loop-edit.self) (get_or c.args.edits.now c.loop-edit.edit-index (Make 0 0 0))))) 1 0 =
    elim c.if-is_err.branch [ then-is_err w ↦ grind arith | else-is_err w ↦ grind arith ] in
    going_more (held_open c.args.self.now) c.args.edits.now (held_open c.loop-edit.self) (held_open c.apply.new.self) c.loop-edit.refused c.if-is_err.refused c.loop-edit.edit-index
    (Make 0 0 0) c.loop-edit-test.true c.apply.ensures.leaves counted c.loop-edit.invariant
