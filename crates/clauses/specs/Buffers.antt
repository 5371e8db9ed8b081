-- The number of the refusal of a short buffer.
use Rattle.std.specs.Prelude.{ℕ}
use Rattle.clauses.specs.declared.buffer.ShortBuffer.{ShortBuffer}

abbrev pub number : ShortBuffer → ℕ
number short = 11
