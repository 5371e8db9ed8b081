-- The sublists that `choose` lists: how many there are, how long each is, and those of a mapped list.
use Rattle.std.proofs.Common.{◌≡◌, ℕ, zero, suc, List, [], ◌∷◌, map, length, refl, ap, length-append}
use mathlib.Core.List.{map-map}
use Rattle.std.proofs.ByRecursion.{All-append, All-map, All-weaker}
use Rattle.std.proofs.lemmas.List.{length-map, map-append}
use Rattle.std.specs.List.{AllByRecursion}
use Rattle.subsets.specs.Choose.{choose, subset_count}

-- there are as many as Pascal's rule gives
pub length-choose : {X : Type 0} (s : ℕ) (xs : List X) → length (choose s xs) ≡ subset_count (length xs) s
unfolding choose subset_count
length-choose zero xs = refl
length-choose (suc s) [] = refl
length-choose (suc s) (x ∷ xs) = simp (length-append, length-map, length-choose s xs, length-choose (suc s) xs)

-- each has s elements
pub choose_lengths : {X : Type 0} (s : ℕ) (xs : List X) → AllByRecursion (λ ys. length ys ≡ s) (choose s xs)
unfolding choose
choose_lengths zero xs = (refl, tt)
choose_lengths (suc s) [] = tt
choose_lengths {X} (suc s) (x ∷ xs) =
    let P : List X → Type 0 = λ ys. length ys ≡ suc s in
    let longer = All-weaker (λ ys. length ys ≡ s) (λ ys. P (x ∷ ys)) (λ ys e. ap suc e) (choose s xs) (choose_lengths s xs) in
    All-append P _ _ (All-map P (λ ys. x ∷ ys) (choose s xs) longer) (choose_lengths (suc s) xs)

-- those of a mapped list are the mapped ones
pub choose-map : {X Y : Type 0} (f : X → Y) (s : ℕ) (xs : List X) → choose s (map f xs) ≡ map (map f) (choose s xs)
unfolding choose
choose-map f zero xs = refl
choose-map f (suc s) [] = refl
choose-map f (suc s) (x ∷ xs) = simp (choose-map f s xs, choose-map f (suc s) xs, map-append, map-map)
