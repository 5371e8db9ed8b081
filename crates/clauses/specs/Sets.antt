-- The clauses of all sets of so many literals.
use Rattle.std.specs.Prelude.{ℕ, List, ◌++◌, map, ℤ}
use Rattle.sat.specs.Formula.{encode}
use Rattle.subsets.specs.Choose.{choose}

-- the numbers of a clause for each set of so many literals, each clause with the front before the set
unfoldable pub set_numbers : List ℤ → ℕ → List ℤ → List ℤ
set_numbers front size literals = encode (map (λ set. front ++ set) (choose size literals))
