use Rattle.board.proofs.Laws.{lawful_rack}
use Rattle.board.proofs.open.OpenBoard.rack.Goals as goal

pub returns-clause-lawful : goal.returns-clause-lawful
returns-clause-lawful c = lawful_rack c.args.self.now.rack
