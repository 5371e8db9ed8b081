-- The measure of a board counts its clause list: its clauses and its literals, for every size of sets.
use Rattle.std.proofs.Common.{◌≡◌, ℕ, zero, suc, ◌+◌, ◌-◌, ◌*◌, List, [], ◌∷◌, ◌++◌, map, length, ℤ, sum_by, sym, refl, ap, ◌∙◌, arith}
use Rattle.std.proofs.lemmas.List.FromFn.{length-range_with_len}
use Rattle.std.proofs.ByRecursion.{All-weaker}
use Rattle.std.proofs.lemmas.List.{length-append, length-map}
use Rattle.std.proofs.lemmas.List.Sums.{sum_by-append, sum_by-cons}
use Rattle.std.specs.List.{range_with_len, flat_map, AllByRecursion}
use Rattle.subsets.specs.Choose.{choose, subset_count}
use Rattle.subsets.proofs.Count.{count_empty, count_more, count_none}
use Rattle.subsets.proofs.Sublists.{choose_lengths, length-choose}
use Rattle.board.specs.Held.{Held}
use Rattle.board.specs.Measure.{conflicts, conflicts_in}
use Rattle.board.specs.Rows.{load, nets}
use Rattle.plans.specs.Clauses.{at_least_one, at_most_one, at_most_pins, clauses, goes, goes_not}
use Rattle.plans.specs.Laws.{Counted}
use Rattle.plans.specs.Nets.{nets_of, ranks_from}
use Rattle.plans.proofs.Elements.{all_of}
use Rattle.plans.proofs.Ranks.{length-nets, length_ranks}

-- ---- sums over lists made of others

sum_by_joined : {X Y : Type 0} (g : Y → ℕ) (f : X → List Y) (xs : List X) → sum_by g (flat_map f xs) ≡ sum_by (λ x. sum_by g (f x)) xs
sum_by_joined g f [] = refl
sum_by_joined g f (x ∷ xs) = sum_by-append g (f x) (flat_map f xs) ∙ ap (λ n. sum_by g (f x) + n) (sum_by_joined g f xs) ∙ sym (sum_by-cons (λ x. sum_by g (f x)) x xs)

length_joined : {X Y : Type 0} (f : X → List Y) (xs : List X) → length (flat_map f xs) ≡ sum_by (λ x. length (f x)) xs
length_joined f [] = refl
length_joined f (x ∷ xs) = length-append (f x) (flat_map f xs) ∙ ap (λ n. length (f x) + n) (length_joined f xs) ∙ sym (sum_by-cons (λ x. length (f x)) x xs)

sum_by-map : {X Y : Type 0} (g : Y → ℕ) (f : X → Y) (xs : List X) → sum_by g (map f xs) ≡ sum_by (λ x. g (f x)) xs
sum_by-map g f [] = refl
sum_by-map g f (x ∷ xs) = sum_by-cons g (f x) (map f xs) ∙ ap (λ n. g (f x) + n) (sum_by-map g f xs) ∙ sym (sum_by-cons (λ x. g (f x)) x xs)

sum_by_alike : {X : Type 0} (f : X → ℕ) (c : ℕ) (xs : List X) → AllByRecursion (λ x. f x ≡ c) xs → sum_by f xs ≡ length xs * c
sum_by_alike f c [] h = omega arith
sum_by_alike f c (x ∷ xs) h = omega (arith, sum_by-cons f x xs, h.0, sum_by_alike f c xs h.1)

sum_by_times : {X : Type 0} (f g : X → ℕ) (c : ℕ) → ((x : X) → f x ≡ c * g x) → (xs : List X) → sum_by f xs ≡ c * sum_by g xs
sum_by_times f g c h [] = omega arith
sum_by_times f g c h (x ∷ xs) =
    sum_by-cons f x xs ∙ omega (arith, h x, sum_by_times f g c h xs) ∙ ap (λ n. c * n) (sym (sum_by-cons g x xs))

-- ---- the pairs of k

count_single : (d : ℕ) → subset_count d 1 ≡ d
count_single zero = count_empty 0
count_single (suc d) = omega (arith, count_more d 0, count_none d, count_single d)

count_pairs : (d : ℕ) → 2 * subset_count (suc d) 2 ≡ suc d * d
count_pairs zero = omega (arith, count_more 0 1, count_empty 0, count_empty 1)
count_pairs (suc d) = omega (arith, count_more (suc d) 1, count_single (suc d), count_pairs d)

-- n × k × (k - 1) is twice n × C(k, 2)
pub pairs : (n k : ℕ) → n * k * (k - 1) ≡ 2 * (n * subset_count k 2)
pairs n zero = omega (arith, ap (λ x. n * x) (count_empty 1))
pairs n (suc d) =
    let less : suc d - 1 ≡ d = omega arith in
    ap (λ x. n * suc d * x) less ∙ omega (arith, ap (λ x. n * x) (count_pairs d))

-- ---- the clauses of sublists

length_sublists : {X : Type 0} (literal : X → ℤ) (s : ℕ) (xs : List X) → length (map (map literal) (choose s xs)) ≡ subset_count (length xs) s
length_sublists literal s xs = length-map (choose s xs) (map literal) ∙ length-choose s xs

literals_sublists : {X : Type 0} (literal : X → ℤ) (s : ℕ) (xs : List X) → sum_by length (map (map literal) (choose s xs)) ≡ subset_count (length xs) s * s
literals_sublists literal s xs =
    sum_by-map length (map literal) (choose s xs)
    ∙ sum_by_alike (λ ys. length (map literal ys)) s (choose s xs)
    (All-weaker (λ ys. length ys ≡ s) (λ ys. length (map literal ys) ≡ s) (λ ys e. length-map ys literal ∙ e) (choose s xs) (choose_lengths s xs))
    ∙ ap (λ n. n * s) (length-choose s xs)

-- ---- the three groups

module _ (held : Held) where
  abbrev ranks : List ℕ
  ranks = range_with_len 0 (length (nets_of held.rows))

  abbrev sets : ℕ → List (List ℤ)
  sets chip = flat_map (at_most_pins held.fpics held.pins (nets_of held.rows) chip) (range_with_len 0 held.fpics)

  abbrev firsts : List (List ℤ)
  firsts = map (at_least_one held.fpics) ranks

  abbrev seconds : List (List ℤ)
  seconds = flat_map (at_most_one held.fpics) ranks

  abbrev thirds : List (List ℤ)
  thirds = flat_map sets (range_with_len 1 held.chips)

  alike : {X : Type 0} (f : X → ℕ) (c : ℕ) (xs : List X) (n : ℕ) → length xs ≡ n → ((x : X) → f x ≡ c) → sum_by f xs ≡ n * c
  alike f c xs n long h = sum_by_alike f c xs (all_of (λ x. f x ≡ c) h xs) ∙ ap (λ m. m * c) long

  ranked : length ranks ≡ nets held.rows
  ranked = length-range_with_len 0 (length (nets_of held.rows)) ∙ length-nets held.rows

  fpics : length (range_with_len 0 held.fpics) ≡ held.fpics
  fpics = length-range_with_len 0 held.fpics

  length_firsts : length firsts ≡ nets held.rows
  length_firsts = length-map ranks (at_least_one held.fpics) ∙ ranked

  literals_firsts : sum_by length firsts ≡ nets held.rows * held.fpics
  literals_firsts =
      sum_by-map length (at_least_one held.fpics) ranks
      ∙ alike (λ r. length (at_least_one held.fpics r)) held.fpics ranks (nets held.rows) ranked (λ r. length-map (range_with_len 0 held.fpics) (goes held.fpics r) ∙ fpics)

  length_seconds : length seconds ≡ nets held.rows * subset_count held.fpics 2
  length_seconds =
      length_joined (at_most_one held.fpics) ranks
      ∙ alike (λ r. length (at_most_one held.fpics r)) (subset_count held.fpics 2) ranks (nets held.rows) ranked
      (λ r. length_sublists (goes_not held.fpics r) 2 (range_with_len 0 held.fpics) ∙ ap (λ d. subset_count d 2) fpics)

  literals_seconds : sum_by length seconds ≡ nets held.rows * (subset_count held.fpics 2 * 2)
  literals_seconds =
      sum_by_joined length (at_most_one held.fpics) ranks
      ∙ alike (λ r. sum_by length (at_most_one held.fpics r)) (subset_count held.fpics 2 * 2) ranks (nets held.rows) ranked
      (λ r. literals_sublists (goes_not held.fpics r) 2 (range_with_len 0 held.fpics) ∙ ap (λ d. subset_count d 2 * 2) fpics)

  abbrev size : ℕ
  size = held.pins + 1

  length_sets : (chip : ℕ) → length (sets chip) ≡ held.fpics * subset_count (load chip held.rows) size
  length_sets chip =
      let f = at_most_pins held.fpics held.pins (nets_of held.rows) chip in
      length_joined f (range_with_len 0 held.fpics)
      ∙ alike (λ t. length (f t)) (subset_count (load chip held.rows) size) (range_with_len 0 held.fpics) held.fpics fpics
      (λ t.
      length_sublists (λ r. goes_not held.fpics r t) size (ranks_from 0 chip (nets_of held.rows))
      ∙ ap (λ d. subset_count d size) (length_ranks 0 chip held.rows))

  literals_sets : (chip : ℕ) → sum_by length (sets chip) ≡ held.fpics * size * subset_count (load chip held.rows) size
  literals_sets chip =
      let f = at_most_pins held.fpics held.pins (nets_of held.rows) chip in
      sum_by_joined length f (range_with_len 0 held.fpics)
      ∙ alike (λ t. sum_by length (f t)) (subset_count (load chip held.rows) size * size) (range_with_len 0 held.fpics) held.fpics fpics
      (λ t.
      literals_sublists (λ r. goes_not held.fpics r t) size (ranks_from 0 chip (nets_of held.rows))
      ∙ ap (λ d. subset_count d size * size) (length_ranks 0 chip held.rows))
      ∙ omega arith

  length_thirds : length thirds ≡ held.fpics * conflicts held
  unfolding conflicts_in
  length_thirds =
      length_joined sets (range_with_len 1 held.chips)
      ∙ sum_by_times (λ chip. length (sets chip)) (λ chip. subset_count (load chip held.rows) size) held.fpics length_sets (range_with_len 1 held.chips)

  literals_thirds : sum_by length thirds ≡ held.fpics * size * conflicts held
  unfolding conflicts_in
  literals_thirds =
      sum_by_joined length sets (range_with_len 1 held.chips)
      ∙ sum_by_times (λ chip. sum_by length (sets chip)) (λ chip. subset_count (load chip held.rows) size) (held.fpics * size) literals_sets (range_with_len 1 held.chips)

  pub length-clauses : length (clauses held) ≡ nets held.rows + nets held.rows * subset_count held.fpics 2 + held.fpics * conflicts held
  unfolding clauses
  length-clauses =
      length-append firsts (seconds ++ thirds) ∙ omega (arith, length-append seconds thirds, length_firsts, length_seconds, length_thirds)

  pub literals-clauses : sum_by length (clauses held) ≡ nets held.rows * held.fpics + nets held.rows * (subset_count held.fpics 2 * 2) + held.fpics * size * conflicts held
  unfolding clauses
  literals-clauses =
      sum_by-append length firsts (seconds ++ thirds) ∙ omega (arith, sum_by-append length seconds thirds, literals_firsts, literals_seconds, literals_thirds)

  -- n × k and twice its pairs are n × k × k
  squares : (n k : ℕ) → n * k + n * (subset_count k 2 * 2) ≡ n * k * k
  squares n zero = omega (arith, pairs n 0)
  squares n (suc d) = omega (arith, ap (λ x. n * x) (count_pairs d))

  pub counted : Counted held
  counted =
      record {
        variable_count = ap (λ n. n * held.fpics) (sym (length-nets held.rows));
        clause_count = omega (arith, length-clauses, pairs (nets held.rows) held.fpics);
        literal_count = omega (arith, literals-clauses, squares (nets held.rows) held.fpics);
      }
