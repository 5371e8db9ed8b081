use Rattle.std.proofs.Common.{refl}
use Rattle.std.proofs.lemmas.Bool.{false≢true}
use Rattle.board.proofs.Rows.{good_kept, load_kept}
use Rattle.board.proofs.open.OpenBoard.remove.Goals as goal

pub invariant_of-self : goal.invariant_of-self
invariant_of-self c =
    record {
      good = good_kept _ _ _ _ _ _ c.set.ensures refl c.args.self.now.rack.good;
      loads = load_kept _ _ _ _ _ c.set.ensures (λ chip t. absurd (false≢true t)) c.args.self.now.rack.loads;
    }
