-- What `formula` does with any buffer.
use Rattle.std.specs.Prelude.{◌≡◌, ℕ, ◌<◌, ◌≤◌, List, ◌++◌, length, drop, ℤ, Ok, Err, Result}
use Rattle.board.specs.Held.{Held}
use Rattle.plans.specs.Clauses.{clauses}
use Rattle.sat.specs.Formula.{encode}
use Rattle.clauses.specs.declared.buffer.Buffer.TheVariants.{Formula}
use Rattle.clauses.specs.declared.buffer.ShortBuffer.{ShortBuffer}

-- the numbers of a board's formula
unfoldable pub formula_of : Held → List ℤ
formula_of held = encode (clauses held)

-- the buffer is too short: it is named with the length needed, and nothing is written
pub record FormulaRefused (held : Held) (was is : List ℤ) (r : Result ℕ ShortBuffer) : Type 0 where
  pub result : r ≡ Err (record { buffer = Formula; needed = length (formula_of held) })
  pub buffer : is ≡ was

-- the buffer begins with the formula, the numbers behind it are as they were, and the answer is the formula's length
pub record FormulaWritten (held : Held) (was is : List ℤ) (r : Result ℕ ShortBuffer) : Type 0 where
  pub result : r ≡ Ok (length (formula_of held))
  pub buffer : is ≡ formula_of held ++ drop (length (formula_of held)) was

pub record Formulated (held : Held) (was is : List ℤ) (r : Result ℕ ShortBuffer) : Type 0 where
  pub refused : length was < length (formula_of held) → FormulaRefused held was is r
  pub written : length (formula_of held) ≤ length was → FormulaWritten held was is r
