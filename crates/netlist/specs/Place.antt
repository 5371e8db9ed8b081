-- Where a reader stands, and what it takes from there.
use Rattle.std.specs.Prelude.{◌≡◌, ℕ, ◌+◌, cond, List, is_some, Some, None, Ok, Err, Option, Result}
use Rattle.std.specs.Option.{option_map}
use Rattle.board.specs.Held as board
use Rattle.board.specs.Held.{Held, judged}
use Rattle.board.specs.declared.edit.Edit.{Edit}
use Rattle.netlist.specs.Lines.{Line, edit_of}
use Rattle.netlist.specs.Pieces.{Piece, Found, line_at}
use Rattle.netlist.specs.declared.fault.Fault.{Fault}
use Rattle.netlist.specs.declared.fault.Fault.TheVariants.{TooLong, NoForm, Declined}
use Rattle.netlist.specs.declared.reader.Reader.{Reader}

-- the text from the reader's place on
abbrev pub rest : Reader → List ℕ
rest reader = reader.rest.now

-- the reader finds the piece and is then behind it, or finds none; its line stays
pub record Finds {A : Type 0} (piece : Piece A) (before : Reader) (r : Option A) (after : Reader) : Type 0 where
  pub found : Found piece (rest before) r (rest after)
  pub line : after.line ≡ before.line

-- the same, where a method tells the piece by something made from it
abbrev pub FindsAs : {A B : Type 0} → (A → B) → Piece A → Reader → Option B → Reader → Type 0
FindsAs {A} told piece before r after = (o : Option A) × Finds piece before o after × (r ≡ option_map told o)

-- and where it finds none, it stays
pub record Takes {A : Type 0} (piece : Piece A) (before : Reader) (r : Option A) (after : Reader) : Type 0 where
  pub finds : Finds piece before r after
  pub stays : r ≡ None → rest after ≡ rest before

-- the reader goes behind the line that it finds, and counts it, or else stays
pub record GoesOn (before : Reader) (found : Option Line) (after : Reader) : Type 0 where
  pub finds : Found (line_at before.line) (rest before) found (rest after)
  pub stays : found ≡ None → rest after ≡ rest before
  pub line : after.line ≡ before.line + cond (is_some found) 1 0

-- the edit of the line
abbrev pub NextLine : Reader → Option Edit → Reader → Type 0
NextLine before r after = (found : Option Line) × GoesOn before found after × (r ≡ option_map edit_of found)

-- a line is read and the board acts on it: it takes the line's edit, or there is no line, or it declines the edit and stays
abbrev pub Acts : Reader → Held → Result (Unit {0}) Fault → Reader → Held → Type 0
Acts before held (Ok _) after held' = (line : Line) × GoesOn before (Some line) after × (judged held (edit_of line) ≡ None) × (held' ≡ board.after held (edit_of line))
Acts before held (Err TooLong) after held' = ⊥
Acts before held (Err (NoForm place)) after held' = (place ≡ before.line) × GoesOn before None after × (held' ≡ held)
Acts before held (Err (Declined place cause)) after held' =
    (place ≡ before.line) × ((line : Line) × GoesOn before (Some line) after × (judged held (edit_of line) ≡ Some cause)) × (held' ≡ held)
