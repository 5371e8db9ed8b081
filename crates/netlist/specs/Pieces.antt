-- The pieces of a netlist line: what each can be, how that is written, and what may stand behind it.
use Rattle.std.specs.Prelude.{◌≡◌, ℕ, ◌+◌, ◌<◌, ◌≤◌, Bool, false, List, [], ◌∷◌, ◌++◌, length, Some, None, decimal, Option, ◌≢◌}
use Rattle.std.specs.List.{flat_map}
use Rattle.std.specs.Char.{is_ascii_digit}
use Rattle.netlist.specs.Lines as lines
use Rattle.netlist.specs.Lines.{Line}

-- how a thing is written, and which things fit, with what stands behind them
pub record Piece (A : Type 0) : Type 1 where
  pub written : A → List ℕ
  pub Fits : A → (behind : List ℕ) → Type 0

-- a text begins with a piece, and what stands behind it is left; or it begins with none
abbrev pub Found : {A : Type 0} → Piece A → List ℕ → Option A → List ℕ → Type 0
Found {A} piece text (Some x) left = piece.Fits x left × (text ≡ piece.written x ++ left)
Found {A} piece text None left = (x : A) (behind : List ℕ) → piece.Fits x behind → text ≢ piece.written x ++ behind

-- this byte
abbrev pub byte : ℕ → Piece (Unit {0})
byte b = record { written = λ _. b ∷ []; Fits = λ _ _. Unit {0} }

-- one of so many bytes from the first on, counted from 0
abbrev pub one_of : ℕ → ℕ → Piece ℕ
one_of start count = record { written = λ n. (start + n) ∷ []; Fits = λ n _. n < count }

abbrev pub digit : Piece ℕ
digit = one_of 48 10

-- A to H
abbrev pub letter : Piece ℕ
letter = one_of 65 8

abbrev pub digit_first : List ℕ → Bool
digit_first [] = false
digit_first (b ∷ bs) = is_ascii_digit b

-- one to three digits without a leading zero, and no further digit behind them
abbrev pub number : Piece ℕ
number = record { written = decimal; Fits = λ n behind. (n < 1000) × (digit_first behind ≡ false) }

-- a space and a number
abbrev pub field : Piece ℕ
field = record { written = lines.field; Fits = number.Fits }

-- the letter that a line begins with, and its first number
abbrev pub opening : ℕ → Piece ℕ
opening letter = record { written = λ n. letter ∷ lines.field n; Fits = number.Fits }

-- one chip or more and the line feed
abbrev pub chips : Piece (List ℕ)
chips = record { written = λ cs. flat_map lines.field cs ++ lines.line_feed; Fits = λ cs _. (1 ≤ length cs) × lines.Chips cs }

-- a line that begins with this letter
abbrev pub form : ℕ → Piece Line
form letter = record { written = lines.render; Fits = λ line _. lines.Formed line × (lines.keyword line ≡ letter) }

-- a line that may stand at a place, counted from 1
abbrev pub line_at : ℕ → Piece Line
line_at place = record { written = lines.render; Fits = λ line _. lines.MayStand place line }
