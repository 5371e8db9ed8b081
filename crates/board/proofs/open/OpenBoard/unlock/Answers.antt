use Rattle.std.proofs.Common.{refl}
use Rattle.board.proofs.Rows.{good_relocked, load_relocked}
use Rattle.board.proofs.open.OpenBoard.unlock.Goals as goal

pub invariant_of-self : goal.invariant_of-self
invariant_of-self c =
    record {
      good = good_relocked _ _ _ _ _ _ _ c.in_ok-found.ensures c.set.ensures refl c.args.self.now.rack.good;
      loads = load_relocked _ _ _ _ _ _ c.in_ok-found.ensures c.set.ensures c.args.self.now.rack.loads;
    }
