use Rattle.std.proofs.Common.{◌≡◌}
use Rattle.search.specs.Suiting.{Suits, weight}
use Rattle.search.proofs.state.State.run.Given as goal

abbrev pub invariant-loop-mood : goal.invariant-loop-mood
invariant-loop-mood l = record { suits : Suits l.self l.mood; same : l.self.question ≡ l.initial.self.question }

abbrev pub decreases-loop-mood : goal.decreases-loop-mood
decreases-loop-mood l = weight l.self l.mood
