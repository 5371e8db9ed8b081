-- The clauses of a board as blocks: first a block of one clause for each net, then one of pairs for each net, then one for each chip and FPIC.
use Rattle.std.specs.Prelude.{ℕ, ◌+◌, ◌-◌, ◌*◌, ◌/◌, ◌%◌, if◌then◌else◌, List, [], ◌∷◌, map, ℤ, nat_lt}
use Rattle.std.specs.List.{range_with_len, flat_map}
use Rattle.subsets.specs.Choose.{choose}
use Rattle.plans.specs.Clauses.{at_least_one, at_most_one, goes_not}
use Rattle.clauses.specs.Ranks.{ranks_at}
use Rattle.clauses.specs.declared.block.Block.{Block}
use Rattle.clauses.specs.declared.ranking.Ranking.{Ranking}

-- the clauses of a block
unfoldable pub clauses_in : Block → List (List ℤ)
clauses_in block = choose block.size block.literals.items

-- the sets of one net more than the pins, of the chip of a place, at an FPIC
unfoldable pub conflicts_at : Ranking → (place t : ℕ) → List (List ℤ)
conflicts_at ranking place t = map (map (λ r. goes_not ranking.sizes.fpics r t)) (choose (ranking.sizes.pins + 1) (ranks_at ranking place))

-- how many blocks there are
abbrev pub block_count : Ranking → ℕ
block_count ranking = ranking.nets + ranking.nets + ranking.sizes.chips * ranking.sizes.fpics

-- the clauses of the block of an index
unfoldable pub block_at : Ranking → ℕ → List (List ℤ)
block_at ranking index =
    if nat_lt index ranking.nets then at_least_one ranking.sizes.fpics index ∷ []
    else if nat_lt index (ranking.nets + ranking.nets) then at_most_one ranking.sizes.fpics (index - ranking.nets)
    else conflicts_at ranking ((index - (ranking.nets + ranking.nets)) / ranking.sizes.fpics) ((index - (ranking.nets + ranking.nets)) % ranking.sizes.fpics)

-- the clauses of all of them
unfoldable pub all_blocks : Ranking → List (List ℤ)
all_blocks ranking = flat_map (block_at ranking) (range_with_len 0 (block_count ranking))
