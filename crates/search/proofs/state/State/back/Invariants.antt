use Rattle.std.proofs.Common.{◌≡◌, length}
use Rattle.search.specs.States.{newest_first}
use Rattle.search.specs.Moods.{backed}
use Rattle.search.specs.Suiting.{Suits}
use Rattle.search.specs.declared.mood.Mood.TheVariants.{Backing}
use Rattle.search.proofs.state.State.back.Given as goal

abbrev pub invariant-loop-entry : goal.invariant-loop-entry
invariant-loop-entry l = record {
  suits : Suits l.self Backing;
  backs : backed (newest_first l.self) l.self ≡ backed (newest_first l.initial.self) l.initial.self;
}

abbrev pub decreases-loop-entry : goal.decreases-loop-entry
decreases-loop-entry l = length l.self.trail.items
