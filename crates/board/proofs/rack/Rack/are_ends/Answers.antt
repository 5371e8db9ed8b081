use Rattle.std.proofs.Common.{◌≡◌, ◌/◌, ◌^◌, eqb}
use Rattle.board.specs.Rows.{are_ends}
use Rattle.board.proofs.Ends.{ends_test}
use Rattle.board.proofs.rack.Rack.are_ends.Goals as goal

pub returns-then-ends-ge2 : goal.returns-then-ends-ge2
returns-then-ends-ge2 c =
    let t : eqb (c.args.ends / 2 ^ c.args.self.now.sizes.chips) 0 ≡ are_ends c.args.self.now.sizes.chips c.args.ends = ends_test c.args.self.now.sizes.chips c.args.ends c.if-ends-ge2.true in
    rw (c.from.ensures, c.chips.ensures) t
