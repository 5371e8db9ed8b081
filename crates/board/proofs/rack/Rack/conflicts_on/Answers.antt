use Rattle.std.proofs.Common.{◌+◌, sym, ◌∙◌}
use Rattle.subsets.proofs.Count.{tabled_at_most}
use Rattle.board.proofs.rack.Rack.conflicts_on.Goals as goal

pub returns-clause-bound : goal.returns-clause-bound
returns-clause-bound c = tabled_at_most c.load.result (c.from.result + 1) c.unwrap.result (sym c.unwrap.ensures ∙ c.subset_count.ensures.counted)
