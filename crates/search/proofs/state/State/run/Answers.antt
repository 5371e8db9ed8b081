use Rattle.std.proofs.Common.{◌∙◌}
use Rattle.search.proofs.Moments.{Next, step_next}
use Rattle.search.proofs.state.State.run.Goals as goal
use Rattle.search.proofs.state.State.run.Goals.{After-step-mood}

next : (c : After-step-mood) → Next c.loop-mood.self c.loop-mood.mood (c.step-mood.new.self, c.step-mood.result)
next c =
    step_next c.loop-mood.self c.loop-mood.mood c.step-mood.new.self c.step-mood.result c.in_default.not-Ended c.loop-mood.invariant.suits c.step-mood.ensures.answers c.step-mood.ensures.leaves

pub loop-mood-preserved : goal.loop-mood-preserved
loop-mood-preserved c = record { suits = (next c).suits; same = (next c).same ∙ c.loop-mood.invariant.same }

pub loop-mood-smaller : goal.loop-mood-smaller
loop-mood-smaller c = (next c).less
