-- The moods of a search: what each does to the state, and the mood that follows.
use Rattle.std.specs.Prelude.{ℕ, List, [], ◌∷◌, pos, neg_ℤ, Some, None, Option}
use Rattle.sat.specs.declared.question.Verdict.TheVariants.{Yes, No}
use Rattle.scan.specs.Rounds.{round}
use Rattle.scan.specs.declared.round.Telling.{Telling}
use Rattle.scan.specs.declared.round.Telling.TheVariants.{Conflict, Forced}
use Rattle.scan.specs.declared.round.Round.{Round}
use Rattle.search.specs.States.{newest_first, pushed, popped, lowest_open}
use Rattle.search.specs.declared.state.Entry.{Entry}
use Rattle.search.specs.declared.state.Entry.TheVariants.{Implied, Choice}
use Rattle.search.specs.declared.state.State.{State}
use Rattle.search.specs.declared.mood.Mood.{Mood}
use Rattle.search.specs.declared.mood.Mood.TheVariants.{Forcing, Choosing, Backing, Ended}

-- a state with the mood that it is in
abbrev pub Moment : Type 0
Moment = State × Mood

-- the round around the formula from where the last one stopped
abbrev pub round_of : State → Round
round_of s = round s.values.slots s.question.formula.now s.place

-- the search looks around the formula only where it is forcing
abbrev pub seen_by : State → Mood → Option Telling
seen_by s Forcing = (round_of s).found
seen_by s Choosing = None
seen_by s Backing = None
seen_by s (Ended verdict) = None

abbrev pub placed : State → ℕ → State
placed s place = record s { place = place }

abbrev pub looked : State → Mood → State
looked s Forcing = placed s (round_of s).next
looked s Choosing = s
looked s Backing = s
looked s (Ended verdict) = s

-- a forced literal is entered as implied; a clause that is all false is backed from; and where nothing is left to force, a variable is chosen
abbrev pub forced : State → Option Telling → Moment
forced s None = (s, Choosing)
forced s (Some Conflict) = (s, Backing)
forced s (Some (Forced z)) = (pushed s (Implied z), Forcing)

-- the lowest open variable is set true; where none is open, the values answer the question
abbrev pub chosen_as : State → Option ℕ → Moment
chosen_as s None = (s, Ended Yes)
chosen_as s (Some n) = (pushed s (Choice (pos n)), Forcing)

abbrev pub chosen : State → Moment
chosen s = chosen_as s (lowest_open s.question.variables s.values.slots)

-- implied entries are dropped, and the newest choice is turned: its opposite is implied; without a choice no valuation answers the question
abbrev pub turned_by : State → Entry → Moment → Moment
turned_by s (Implied z) older = older
turned_by s (Choice z) older = (pushed s (Implied (neg_ℤ z)), Forcing)

-- along the entries of the state, newest first
abbrev pub backed : List Entry → State → Moment
backed [] s = (s, Ended No)
backed (entry ∷ older) s = turned_by (popped s) entry (backed older (popped s))

-- one step
abbrev pub stepped : State → Mood → Moment
stepped s Forcing = forced (looked s Forcing) (seen_by s Forcing)
stepped s Choosing = chosen s
stepped s Backing = backed (newest_first s) s
stepped s (Ended verdict) = (s, Ended verdict)
