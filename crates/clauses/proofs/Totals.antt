-- How long the lines of all sets of so many literals are: each literal stands in as many sets as the others have sets of one element less.
use Rattle.std.proofs.Common.{◌≡◌, ℕ, zero, suc, ◌+◌, ◌-◌, ◌*◌, ◌<◌, ◌≤◌, List, [], ◌∷◌, map, length, replicate, ℤ, pos, sum_by, sym, refl, ap, ◌∙◌, ap₂, suc-mul, add-mul, mul-zero, zero-mul, mul-add, arith, w16, SFits}
use mir.Val.{of_z, to_z}
use Rattle.std.proofs.lemmas.Fmt.{length_signed_le}
use Rattle.std.proofs.lemmas.Int.{to_z-of_z}
use Rattle.std.proofs.lemmas.List.{length-append, length-replicate}
use Rattle.std.proofs.lemmas.List.Sums.{sum_by-append, sum_by-cons}
use Rattle.std.proofs.lemmas.List.Concat.{length-flat_map}
use Rattle.std.specs.List.{All, flat_map}
use Rattle.subsets.proofs.Count.{count_more, count_none}
use Rattle.subsets.proofs.Sublists.{length-choose}
use Rattle.subsets.specs.Choose.{choose, subset_count}
use Rattle.clauses.specs.Text.{line_of, spelled}
use Rattle.clauses.proofs.Sets.{choose_all}
use Rattle.clauses.proofs.Spelling.{length-spelled}

module _ {X : Type 0} (g : X → ℕ) where
  -- the sum over all elements of all sets
  total : ℕ → List X → ℕ
  total s xs = sum_by (sum_by g) (choose s xs)

  -- with one element more in each set
  with_one : (x : X) (sets : List (List X)) → sum_by (sum_by g) (map (λ ys. x ∷ ys) sets) ≡ length sets * g x + sum_by (sum_by g) sets
  with_one x [] = sym (ap (λ n. n + 0) (zero-mul (g x)))
  with_one x (ys ∷ sets) =
      omega (
        arith,
        sum_by-cons (sum_by g) (x ∷ ys) (map (λ ys. x ∷ ys) sets),
        sum_by-cons g x ys,
        with_one x sets,
        sum_by-cons (sum_by g) ys sets,
        suc-mul (length sets) (g x),
      )

  total_none : (xs : List X) → total 0 xs ≡ 0
  unfolding total choose
  total_none xs = refl

  total_empty : (s : ℕ) → total s [] ≡ 0
  unfolding total choose
  total_empty zero = refl
  total_empty (suc s) = refl

  total_step : (s : ℕ) (x : X) (xs : List X) → total (suc s) (x ∷ xs) ≡ subset_count (length xs) s * g x + total s xs + total (suc s) xs
  unfolding total choose
  total_step s x xs =
      sum_by-append (sum_by g) (map (λ ys. x ∷ ys) (choose s xs)) (choose (suc s) xs)
      ∙ ap (λ n. n + total (suc s) xs) (with_one x (choose s xs) ∙ ap (λ n. n * g x + total s xs) (length-choose s xs))

  -- sets of two sizes that follow one another
  total_both : (s : ℕ) (xs : List X) → total s xs + total (suc s) xs ≡ subset_count (length xs) s * sum_by g xs
  total_both s [] = omega (arith, total_empty s, total_empty (suc s), mul-zero (subset_count 0 s))
  total_both zero (x ∷ xs) =
      omega (
        arith,
        total_none (x ∷ xs),
        total_step 0 x xs,
        total_both 0 xs,
        ap (λ n. n * g x) (count_none (length xs)),
        ap (λ n. n * sum_by g xs) (count_none (length xs)),
        ap (λ n. n * sum_by g (x ∷ xs)) (count_none (suc (length xs))),
        sum_by-cons g x xs,
      )
  total_both (suc s) (x ∷ xs) =
      omega (
        arith,
        total_step s x xs,
        total_step (suc s) x xs,
        total_both s xs,
        total_both (suc s) xs,
        ap (λ n. n * sum_by g (x ∷ xs)) (count_more (length xs) s) ∙ ap (λ n. (subset_count (length xs) s + subset_count (length xs) (suc s)) * n) (sum_by-cons g x xs),
        add-mul (subset_count (length xs) s) (subset_count (length xs) (suc s)) (g x + sum_by g xs),
        mul-add (subset_count (length xs) s) (g x) (sum_by g xs),
        mul-add (subset_count (length xs) (suc s)) (g x) (sum_by g xs),
      )

  -- each element stands in C(d - 1, s - 1) of the sets of s elements
  pub total_is : (s : ℕ) (xs : List X) → 0 < s → 0 < length xs → sum_by (sum_by g) (choose s xs) ≡ subset_count (length xs - 1) (s - 1) * sum_by g xs
  unfolding total
  total_is zero xs h l = absurd (omega arith)
  total_is (suc s) [] h l = absurd (omega arith)
  total_is (suc s) (x ∷ xs) h l =
      let a : suc s - 1 ≡ s = omega arith in
      let b : length (x ∷ xs) - 1 ≡ length xs = omega arith in
      let step : total (suc s) (x ∷ xs) ≡ subset_count (length xs) s * sum_by g (x ∷ xs) =
      omega (arith, total_step s x xs, total_both s xs, ap (λ n. subset_count (length xs) s * n) (sum_by-cons g x xs), mul-add (subset_count (length xs) s) (g x) (sum_by g xs)) in
      step ∙ ap₂ (λ d t. subset_count d t * sum_by g (x ∷ xs)) (sym b) (sym a)

-- a set is its only subset of its own size
pub count_whole : (n : ℕ) → subset_count n n ≡ 1
count_whole n =
    let any : List ℕ = replicate n 0 in
    let long : length any ≡ n = length-replicate {A = ℕ} n 0 in
    ap (λ d. subset_count d n) (sym long) ∙ sym (length-choose n any) ∙ ap length (choose_all n any (sym long))

-- ---- lines

-- the bytes of a literal
abbrev pub spelled_length : ℤ → ℕ
spelled_length z = length (spelled z)

-- a literal of 16 bits and its space have at most 7 bytes
pub spelled_short : (z : ℤ) → SFits w16 z → spelled_length z ≤ 7
spelled_short z fits = omega (arith, length-spelled z, length_signed_le 5 z (omega (arith, fits.sfits)) (omega (arith, fits.sfits)))

-- literals that are read as 16 bits
pub sum_of_read : (zs : List ℤ) → All (SFits w16) zs → sum_by (λ z. length (spelled (to_z w16 (of_z w16 z)))) zs ≡ sum_by spelled_length zs
sum_of_read [] fits = refl
sum_of_read (z ∷ zs) fits =
    omega (
      arith,
      sum_by-cons (λ z. length (spelled (to_z w16 (of_z w16 z)))) z zs,
      ap (λ z. length (spelled z)) (to_z-of_z w16 z (fits 0 (pos 0) (omega arith))),
      sum_of_read zs (λ i d h. fits (suc i) d (omega arith)),
      sum_by-cons spelled_length z zs,
    )

-- the bytes of the lines of clauses
pub length_lines : (clauses : List (List ℤ)) → length (flat_map line_of clauses) ≡ sum_by (sum_by spelled_length) clauses + 2 * length clauses
unfolding line_of
length_lines [] = refl
length_lines (clause ∷ clauses) =
    omega (
      arith,
      length-append (line_of clause) (flat_map line_of clauses),
      length-append (flat_map spelled clause) (48 ∷ 10 ∷ []),
      length-flat_map spelled clause,
      length_lines clauses,
      sum_by-cons (sum_by spelled_length) clause clauses,
    )

pub length-set_lines : (s : ℕ) (literals : List ℤ) → 0 < s → 0 < length literals →
    length (flat_map line_of (choose s literals)) ≡ subset_count (length literals - 1) (s - 1) * sum_by spelled_length literals + 2 * subset_count (length literals) s
length-set_lines s literals h l = omega (arith, length_lines (choose s literals), total_is spelled_length s literals h l, length-choose s literals)
