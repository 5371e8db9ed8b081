-- What holds of every board, and what edits and their refusals come to, in the board's own terms.
use Rattle.std.specs.Prelude.{◌≡◌, ℕ, ◌*◌, ◌<◌, ◌≤◌, true, length, Some, Option, ◌≢◌}
use Rattle.board.specs.Held.{Held}
use Rattle.board.specs.Rows.{has_end, load, row_of}
use Rattle.board.specs.declared.net.Net.{Net}

-- a held net has two or more ends, all of them chips of the rack, and its lock, if any, is an FPIC of the rack
pub record LawfulNet (held : Held) (net : Net) : Type 0 where
  pub two : (a : ℕ) × (b : ℕ) × (a < b) × (has_end net.ends a ≡ true) × (has_end net.ends b ≡ true)
  pub ends : (chip : ℕ) → has_end net.ends chip ≡ true → (1 ≤ chip) × (chip ≤ held.chips)
  pub lock : (letter : ℕ) → net.lock ≡ Some letter → letter < held.fpics

-- what holds of every board that exists; there is a row for each net number from 1 to 128
pub record Lawful (held : Held) : Type 0 where
  pub chips : (2 ≤ held.chips) × (held.chips ≤ 32)
  pub fpics : (1 ≤ held.fpics) × (held.fpics ≤ 8)
  pub pins : (1 ≤ held.pins) × (held.pins ≤ 4)
  pub numbers : length held.rows ≡ 128
  pub nets : (number : ℕ) (net : Net) → row_of held.rows number ≡ Some net → LawfulNet held net
  pub loads : (chip : ℕ) → load chip held.rows ≤ held.fpics * held.pins

-- the chip that a net is refused for: an end of it that has k × m nets, and no lower end has
pub record LowestFullEnd (held : Held) (ends chip : ℕ) : Type 0 where
  pub end : has_end ends chip ≡ true
  pub full : load chip held.rows ≡ held.fpics * held.pins
  pub lowest : (lower : ℕ) → lower < chip → has_end ends lower ≡ true → load lower held.rows < held.fpics * held.pins

-- an accepted edit of a net: its row is this one now; the sizes and the rows of all other nets are as they were
pub record RowAlone (before after : Held) (net : ℕ) (row : Option Net) : Type 0 where
  pub own : row_of after.rows net ≡ row
  pub others : (other : ℕ) → 1 ≤ other → (other ≢ net) → row_of after.rows other ≡ row_of before.rows other
  pub chips : after.chips ≡ before.chips
  pub fpics : after.fpics ≡ before.fpics
  pub pins : after.pins ≡ before.pins
