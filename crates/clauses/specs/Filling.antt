-- What a writer does with a buffer.
use Rattle.std.specs.Prelude.{◌≡◌, ℕ, List, ◌++◌, length, drop}

-- the buffer begins with these elements, those behind them are as they were, and the answer is how many were written
pub record Writes {X : Type 0} (xs was is : List X) (written : ℕ) : Type 0 where
  pub count : written ≡ length xs
  pub buffer : is ≡ xs ++ drop (length xs) was
