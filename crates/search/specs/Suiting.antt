-- What holds of a search in each mood, and how much of it is left.
-- A trail is read newest entry first.
use Rattle.std.specs.Prelude.{◌≡◌, ℕ, zero, suc, ◌+◌, ◌*◌, ◌≤◌, true, false, List, [], ◌∷◌, None, slice_set}
use Rattle.std.specs.List.{AllByRecursion}
use Rattle.sat.specs.Formula.{variable, is_zero, is_true, clauses_of, within}
use Rattle.sat.specs.Question.{Answers}
use Rattle.sat.specs.declared.question.Question.{Question}
use Rattle.sat.specs.declared.question.Verdict.TheVariants.{Yes, No}
use Rattle.scan.specs.Values.{reads, Agrees, Closed, opens}
use Rattle.scan.specs.Rounds.{Finds}
use Rattle.scan.specs.declared.value.Value.{Value}
use Rattle.scan.specs.declared.value.Value.TheVariants.{Open, True}
use Rattle.scan.specs.declared.values.TheConstants.{LARGEST}
use Rattle.search.specs.States.{literal_of, newest_first}
use Rattle.search.specs.declared.state.Entry.{Entry}
use Rattle.search.specs.declared.state.Entry.TheVariants.{Implied, Choice}
use Rattle.search.specs.declared.state.State.{State}
use Rattle.search.specs.declared.mood.Mood.{Mood}
use Rattle.search.specs.declared.mood.Mood.TheVariants.{Forcing, Choosing, Backing, Ended}

module _ (question : Question) where
  -- no model agrees with the values
  abbrev pub Refuted : List Value → Type 0
  Refuted values = (m : List ℕ) → Answers question m → Agrees values m → ⊥

  -- what an entry says over the values without it: an implied literal is true in every model that agrees with them
  abbrev pub Says : List Value → Entry → Type 0
  Says values (Implied z) = (m : List ℕ) → Answers question m → Agrees values m → is_true m z ≡ true
  Says values (Choice z) = Unit {0}

  -- before the first entry the assumed literals are true, and every model agrees
  abbrev pub Based : List Value → Type 0
  Based values = AllByRecursion (λ z. reads values z ≡ True) question.assumed.now × ((m : List ℕ) → Answers question m → Agrees values m)

  -- each entry is a literal of a variable 1 to v and true, and says what is so of the values with its variable opened again
  abbrev pub Sound : List Value → List Entry → Type 0
  Sound values [] = Based values
  Sound values (entry ∷ older) =
      ((is_zero (literal_of entry) ≡ false) × (variable (literal_of entry) ≤ question.variables))
      × (reads values (literal_of entry) ≡ True)
      × Says (slice_set values (variable (literal_of entry)) Open) entry
      × Sound (slice_set values (variable (literal_of entry)) Open) older

-- a search of a question of at most LARGEST variables that its literals keep to, with a sound trail
pub record Going (s : State) : Type 0 where
  pub bounded : s.question.variables ≤ LARGEST
  pub inside : within s.question.variables s.question.formula.now ≡ true
  pub named : AllByRecursion (λ z. (is_zero z ≡ false) × (variable z ≤ s.question.variables)) s.question.assumed.now
  pub sound : Sound s.question s.values.slots (newest_first s)

-- what holds in a mood
abbrev pub Suits : State → Mood → Type 0
Suits s Forcing = Going s
Suits s Choosing = Going s × Finds s.values.slots (clauses_of s.question.formula.now) None
Suits s Backing = Going s × Refuted s.question s.values.slots
Suits s (Ended Yes) = Going s × Finds s.values.slots (clauses_of s.question.formula.now) None × Closed s.question.variables s.values.slots
Suits s (Ended No) = (m : List ℕ) → Answers s.question m → ⊥

-- the nodes of a full tree of choices over so many variables
unfoldable pub nodes : ℕ → ℕ
nodes zero = 1
nodes (suc n) = 2 * nodes n + 1

-- the nodes under the opposites of the choices on a trail, with so many variables open
abbrev pub untried : ℕ → List Entry → ℕ
untried free [] = 0
untried free (Implied z ∷ older) = untried (free + 1) older
untried free (Choice z ∷ older) = nodes free + untried (free + 1) older

-- what is left of a search
abbrev pub weight : State → Mood → ℕ
weight s Forcing = 3 * (nodes (opens s.values.slots) + untried (opens s.values.slots) (newest_first s)) + 1
weight s Choosing = 3 * (nodes (opens s.values.slots) + untried (opens s.values.slots) (newest_first s))
weight s Backing = 3 * untried (opens s.values.slots) (newest_first s) + 2
weight s (Ended verdict) = 0
