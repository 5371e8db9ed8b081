use Rattle.std.specs.List.{flat_map, range_with_len}
use Rattle.clauses.specs.Filling.{Writes}
use Rattle.clauses.proofs.Assembly.{numbers_at}
use Rattle.clauses.proofs.ranking.Ranking.write.Given as goal

abbrev pub invariant-loop-index : goal.invariant-loop-index
invariant-loop-index l = Writes (flat_map (numbers_at l.self) (range_with_len 0 l.index)) l.initial.out l.out l.count
