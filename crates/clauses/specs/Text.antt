-- The text of a formula in DIMACS form: a line with its variables and clauses, then a line for each clause, its literals and 0 with single spaces.
use Rattle.std.specs.Prelude.{◌≡◌, ℕ, ◌*◌, ◌<◌, ◌≤◌, if◌then◌else◌, List, [], ◌∷◌, ◌++◌, length, drop, ℤ, Ok, Err, codes, decimal, Result}
use Rattle.std.specs.Fmt.{signed_decimal}
use Rattle.std.specs.List.{flat_map}
use Rattle.sat.specs.Formula.{is_zero}
use Rattle.board.specs.Held.{Held}
use Rattle.plans.specs.Clauses.{clauses}
use Rattle.plans.specs.Nets.{nets_of}
use Rattle.clauses.specs.Formulas.{formula_of}
use Rattle.clauses.specs.declared.buffer.Buffer.{Buffer}
use Rattle.clauses.specs.declared.buffer.Buffer.TheVariants.{Formula, Text}
use Rattle.clauses.specs.declared.buffer.ShortBuffer.{ShortBuffer}

abbrev pub line_feed : List ℕ
line_feed = 10 ∷ []

-- a literal and the space behind it
unfoldable pub spelled : ℤ → List ℕ
spelled z = signed_decimal z ++ codes " "

-- the line of a clause
unfoldable pub line_of : List ℤ → List ℕ
line_of clause = flat_map spelled clause ++ (codes "0" ++ line_feed)

-- the first line
unfoldable pub head_of : (variables clauses : ℕ) → List ℕ
head_of variables clauses = codes "p cnf " ++ (decimal variables ++ (codes " " ++ (decimal clauses ++ line_feed)))

unfoldable pub text_of : Held → List ℕ
text_of held = head_of (length (nets_of held.rows) * held.fpics) (length (clauses held)) ++ flat_map line_of (clauses held)

-- a number of a formula, as the text has it: a literal and a space, or the 0 that ends a clause and its line
unfoldable pub printed : ℤ → List ℕ
printed z = signed_decimal z ++ (if is_zero z then line_feed else codes " ")

-- a buffer is too short: it is named with the length needed, and nothing is written to either
pub record TextRefused (buffer : Buffer) (needed : ℕ) (formula formula' : List ℤ) (out out' : List ℕ) (r : Result ℕ ShortBuffer) : Type 0 where
  pub result : r ≡ Err (record { buffer = buffer; needed = needed })
  pub numbers : formula' ≡ formula
  pub bytes : out' ≡ out

-- the buffers begin with the formula and with its text, what is behind is as it was, and the answer is the text's length
pub record TextWritten (held : Held) (formula formula' : List ℤ) (out out' : List ℕ) (r : Result ℕ ShortBuffer) : Type 0 where
  pub result : r ≡ Ok (length (text_of held))
  pub numbers : formula' ≡ formula_of held ++ drop (length (formula_of held)) formula
  pub bytes : out' ≡ text_of held ++ drop (length (text_of held)) out

-- what `text` does with any two buffers; of two short ones the formula is named
pub record Printed (held : Held) (formula formula' : List ℤ) (out out' : List ℕ) (r : Result ℕ ShortBuffer) : Type 0 where
  pub short_formula : length formula < length (formula_of held) → TextRefused Formula (length (formula_of held)) formula formula' out out' r
  pub short_text : length (formula_of held) ≤ length formula → length out < length (text_of held) → TextRefused Text (length (text_of held)) formula formula' out out' r
  pub written : length (formula_of held) ≤ length formula → length (text_of held) ≤ length out → TextWritten held formula formula' out out' r
