-- The ranking of a board's nets.
use Rattle.std.specs.Prelude.{◌≡◌, ℕ, ◌+◌, List, [], length, Option, slice_index_or}
use Rattle.board.specs.Held.{Held}
use Rattle.board.specs.declared.net.Net.{Net}
use Rattle.plans.specs.Nets.{nets_of, ranks_from}
use Rattle.clauses.specs.declared.ranking.Ranking.{Ranking}

-- the ranks that it has for the chip of a place; chip c is at place c - 1
abbrev pub ranks_at : Ranking → ℕ → List ℕ
ranks_at ranking place = (slice_index_or ranking.ranks place (record { items = [] })).items

-- it ranks the nets of these rows
pub record Ranks (rows : List (Option Net)) (ranking : Ranking) : Type 0 where
  pub nets : ranking.nets ≡ length (nets_of rows)
  pub lists : (place : ℕ) → ranks_at ranking place ≡ ranks_from 0 (place + 1) (nets_of rows)

-- it has the sizes of a board
pub record Sized (held : Held) (ranking : Ranking) : Type 0 where
  pub chips : ranking.sizes.chips ≡ held.chips
  pub fpics : ranking.sizes.fpics ≡ held.fpics
  pub pins : ranking.sizes.pins ≡ held.pins
