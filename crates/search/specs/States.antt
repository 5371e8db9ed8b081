-- The state of a search: how it starts, and an entry more or less on its trail.
use Rattle.std.specs.Prelude.{◌≡◌, ℕ, ◌-◌, ◌<◌, ◌≤◌, List, [], ◌∷◌, ◌++◌, take, reverse, find, length, ℤ, Some, None, Option, slice_get, slice_index_or}
use Rattle.std.specs.List.{range_with_len}
use Rattle.sat.specs.Formula.{variable}
use Rattle.sat.specs.declared.question.Question.{Question}
use Rattle.scan.specs.Values.{Closed}
use Rattle.scan.specs.Clauses.{is_open}
use Rattle.scan.specs.Edits.{put, assigned}
use Rattle.scan.specs.declared.value.Value.{Value}
use Rattle.scan.specs.declared.value.Value.TheVariants.{Open}
use Rattle.scan.specs.declared.values.Values.{Values}
use Rattle.search.specs.declared.state.Entry.{Entry}
use Rattle.search.specs.declared.state.Entry.TheVariants.{Implied, Choice}
use Rattle.search.specs.declared.state.State.{State}

abbrev pub literal_of : Entry → ℤ
literal_of (Implied z) = z
literal_of (Choice z) = z

-- the start of a search
abbrev pub started : Question → Values → State
started question values = record { question = question; values = values; trail = record { items = [] }; place = 0 }

-- the same question with other values and another trail
abbrev pub moved : State → Values → List Entry → State
moved s values trail = record s { values = values; trail = record { items = trail } }

-- the entries, newest first
abbrev pub newest_first : State → List Entry
newest_first s = reverse s.trail.items

-- an entry more: its literal is true
abbrev pub pushed : State → Entry → State
pushed s entry = moved s (assigned s.values (literal_of entry)) (s.trail.items ++ entry ∷ [])

-- the newest entry, if there is one
abbrev pub newest_of : State → Option Entry
newest_of s = slice_get s.trail.items (length s.trail.items - 1)

-- an entry less: its variable is open
abbrev pub without : State → Option Entry → State
without s None = s
without s (Some entry) = moved s (put s.values (variable (literal_of entry)) Open) (take (length s.trail.items - 1) s.trail.items)

-- the newest entry less, if there is one
abbrev pub popped : State → State
popped s = without s (newest_of s)

-- the lowest open one of the variables 1 to v
abbrev pub lowest_open : ℕ → List Value → Option ℕ
lowest_open v values = find (λ n. is_open (slice_index_or values n Open)) (range_with_len 1 v)

-- none of the variables 1 to v is open, or n is open and none below it
abbrev pub Lowest : ℕ → List Value → Option ℕ → Type 0
Lowest v values None = Closed v values
Lowest v values (Some n) = (0 < n) × (n ≤ v) × (slice_index_or values n Open ≡ Open) × Closed (n - 1) values
