-- The held nets by rank: rank r is the place, counted from 0, in the list of held nets by rising number.
use Rattle.std.specs.Prelude.{ℕ, ◌+◌, cond, List, [], ◌∷◌, Some, None, Option}
use Rattle.board.specs.Rows.{has_end}
use Rattle.board.specs.declared.net.Net.{Net}

-- the held nets, by rising number
abbrev pub nets_of : List (Option Net) → List Net
nets_of [] = []
nets_of (None ∷ rows) = nets_of rows
nets_of (Some net ∷ rows) = net ∷ nets_of rows

-- their numbers, where the first row has this number
abbrev pub numbers_from : ℕ → List (Option Net) → List ℕ
numbers_from number [] = []
numbers_from number (None ∷ rows) = numbers_from (number + 1) rows
numbers_from number (Some net ∷ rows) = number ∷ numbers_from (number + 1) rows

-- the ranks of the nets that end on a chip, rising, where the first net has this rank
abbrev pub ranks_from : ℕ → ℕ → List Net → List ℕ
ranks_from rank chip [] = []
ranks_from rank chip (net ∷ nets) = cond (has_end net.ends chip) (rank ∷ ranks_from (rank + 1) chip nets) (ranks_from (rank + 1) chip nets)

-- the lock of a row's net
abbrev pub lock_of : Option Net → Option ℕ
lock_of None = None
lock_of (Some net) = net.lock
