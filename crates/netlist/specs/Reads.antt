-- What reading a netlist comes to, for every text.
use Rattle.std.specs.Prelude.{◌≡◌, ℕ, ◌+◌, ◌<◌, ◌≤◌, cond, List, [], ◌∷◌, ◌++◌, map, length, is_ok, Some, None, Ok, Err, Result, ◌≢◌}
use Rattle.std.specs.List.{flat_map}
use Rattle.board.specs.Held.{Held, judged, after, after_all}
use Rattle.board.specs.Rows.{has_end}
use Rattle.netlist.specs.Lines.{Line, render, among, Chips, MayStand, ends_of, edit_of}
use Rattle.netlist.specs.declared.fault.Fault.{Fault}
use Rattle.netlist.specs.declared.fault.Fault.TheVariants.{TooLong, NoForm, Declined}

-- lines that may stand from a place on, counted from 1
abbrev pub Placed : ℕ → List Line → Type 0
Placed place [] = Unit {0}
Placed place (line ∷ lines) = MayStand place line × Placed (place + 1) lines

-- the board declines none of the lines' edits, in order
abbrev pub Accepted : Held → List Line → Type 0
Accepted held [] = Unit {0}
Accepted held (line ∷ lines) = (judged held (edit_of line) ≡ None) × Accepted (after held (edit_of line)) lines

-- why reading stops at a place, with this held and this text left:
-- the text is at its end behind a line; it goes on with no line that may stand here, or it is empty; the board declines the line
abbrev pub Stops : Held → (place : ℕ) → List ℕ → Result (Unit {0}) Fault → Type 0
Stops held place left (Ok _) = (left ≡ []) × (1 < place)
Stops held place left (Err TooLong) = ⊥
Stops held place left (Err (NoForm line)) =
    (line ≡ place) × (left ≡ [] → place ≡ 1) × ((form : Line) (behind : List ℕ) → MayStand place form → left ≢ render form ++ behind)
Stops held place left (Err (Declined line cause)) =
    (line ≡ place) × (form : Line) × (behind : List ℕ) × MayStand place form × (left ≡ render form ++ behind) × (judged held (edit_of form) ≡ Some cause)

-- the text begins with lines that stand in their places and whose edits the board takes, as many as there are; then reading stops
pub record Reading (held : Held) (text : List ℕ) (r : Result (Unit {0}) Fault) (after : Held) : Type 0 where
  pub lines : List Line
  pub left : List ℕ
  pub written : text ≡ flat_map render lines ++ left
  pub placed : Placed 1 lines
  pub accepted : Accepted held lines
  pub stops : Stops (after_all held (map edit_of lines)) (length lines + 1) left r
  -- what is held then: what the lines' edits leave, or after a refusal what was held before
  pub leaves : after ≡ cond (is_ok r) (after_all held (map edit_of lines)) held

pub record Reads (held : Held) (text : List ℕ) (r : Result (Unit {0}) Fault) (after : Held) : Type 0 where
  pub long : 16384 < length text → (r ≡ Err TooLong) × (after ≡ held)
  pub short : length text ≤ 16384 → Reading held text r after

-- no other answer, and nothing else held, is a reading of the text
abbrev pub Alone : Held → List ℕ → Result (Unit {0}) Fault → Held → Type 0
Alone held text r after = (s : Result (Unit {0}) Fault) (other : Held) → Reads held text s other → (s ≡ r) × (other ≡ after)

-- the set that a net line's chips come to holds just these chips
abbrev pub EndsAreChips : Type 0
EndsAreChips = (chips : List ℕ) (chip : ℕ) → Chips chips → 1 ≤ chip → has_end (ends_of chips) chip ≡ among chip chips
