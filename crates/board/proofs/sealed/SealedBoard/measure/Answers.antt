use Rattle.std.proofs.Common.{◌≡◌, true, ap₂, ◌∙◌, arith}
use Rattle.board.specs.Rows.{in_limits}
use Rattle.board.proofs.Counts.{Small, small}
use Rattle.board.proofs.sealed.SealedBoard.measure.Goals as goal

fits : (c : goal.After-conflicts-conflicts) → Small c.count-nets.result c.from-fpics.result c.from-pins.result c.conflicts-conflicts.result
fits c =
    let sized : in_limits c.args.self.now.rack.sizes.chips c.from-fpics.result c.from-pins.result ≡ true =
    ap₂ (in_limits c.args.self.now.rack.sizes.chips) (c.from-fpics.ensures ∙ c.fpics.ensures) (c.from-pins.ensures ∙ c.pins.ensures) ∙ c.args.self.now.rack.sizes.sized in
    small c.count-nets.result c.args.self.now.rack.sizes.chips c.from-fpics.result c.from-pins.result c.conflicts-conflicts.result c.count-nets.ensures.bound sized c.conflicts-conflicts.ensures.bound

pub overflow_add-result-4 : goal.overflow_add-result-4
overflow_add-result-4 c = omega (arith, fits c)
