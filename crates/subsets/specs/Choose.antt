-- The subsets of a set that is held as a list, and how many there are of each size.
use Rattle.std.specs.Prelude.{◌≡◌, ℕ, zero, suc, ◌+◌, Bool, cond, ◌&&◌, List, [], ◌∷◌, ◌++◌, map, length, Some, None, Option, nat_le}

-- the sublists of s elements, in lexicographic order of their places: first those that begin with the head
unfoldable pub choose : {X : Type 0} → ℕ → List X → List (List X)
choose zero xs = [] ∷ []
choose (suc s) [] = []
choose (suc s) (x ∷ xs) = map (λ ys. x ∷ ys) (choose s xs) ++ choose (suc s) xs

-- C(d, s), the number of subsets of s elements of a set of d, by Pascal's rule
unfoldable pub subset_count : ℕ → ℕ → ℕ
subset_count d zero = 1
subset_count zero (suc s) = 0
subset_count (suc d) (suc s) = subset_count d s + subset_count d (suc s)

-- the table knows sets of at most 32 elements, and their subsets of at most 5
abbrev pub known : ℕ → ℕ → Bool
known d s = nat_le d 32 && nat_le s 5

-- the count, where the table knows it
abbrev pub tabled : ℕ → ℕ → Option ℕ
tabled d s = cond (known d s) (Some (subset_count d s)) None

-- C(d, s) counts the sublists of s elements of a list of d
abbrev pub CountsSublists : Type 0
CountsSublists = (s : ℕ) (xs : List ℕ) → length (choose s xs) ≡ subset_count (length xs) s
