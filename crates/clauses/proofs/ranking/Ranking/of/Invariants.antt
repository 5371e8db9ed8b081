use Rattle.std.proofs.Common.{◌-◌, take}
use Rattle.board.specs.Views.{held_in}
use Rattle.clauses.specs.Ranks.{Ranks, Sized}
use Rattle.clauses.proofs.ranking.Ranking.of.Given as goal

abbrev pub invariant-loop-number : goal.invariant-loop-number
invariant-loop-number l = Sized (held_in l.rack) l.ranking × Ranks (take (l.number - 1) (held_in l.rack).rows) l.ranking
