-- The blocks of a board, all of them, are its clauses.
use Rattle.std.proofs.Common.{◌≡◌, ℕ, ◌+◌, ◌-◌, ◌*◌, ◌/◌, ◌%◌, ◌<◌, ◌≤◌, cond, ltb, List, [], ◌∷◌, ◌++◌, map, ℤ, sym, refl, ap, ◌∙◌, ap₂, zero-add, zero-mul, arith}
use Rattle.board.proofs.Counts.{sizes}
use Rattle.std.proofs.lemmas.Nat.{mul-le}
use Rattle.std.proofs.lemmas.List.{append_assoc}
use Rattle.std.proofs.lemmas.List.Concat.{flat_map_single}
use Rattle.std.proofs.lemmas.Bool.{le-ltb, lt-ltb}
use Rattle.std.specs.List.{range_with_len, flat_map}
use Rattle.subsets.specs.Choose.{choose}
use Rattle.sat.specs.Formula.{encode}
use Rattle.board.specs.Held.{Held}
use Rattle.plans.specs.Clauses.{at_least_one, at_most_one, at_most_pins, clauses, goes_not}
use Rattle.plans.specs.Nets.{nets_of, ranks_from}
use Rattle.clauses.specs.Blocks.{all_blocks, block_at, block_count, conflicts_at}
use Rattle.clauses.specs.Text.{line_of}
use Rattle.clauses.specs.Ranks.{Ranks, Sized}
use Rattle.clauses.specs.declared.ranking.Ranking.{Ranking}
use Rattle.clauses.proofs.Sets.{encode_joined}
use Rattle.clauses.proofs.Joins.{joined_joined, joined_parts, joined_rows, joined_same}

module _ (ranking : Ranking) where
  -- which block an index has
  pub block_first : (index : ℕ) → index < ranking.nets → block_at ranking index ≡ at_least_one ranking.sizes.fpics index ∷ []
  unfolding block_at
  block_first index h =
      ap (λ b. cond b (at_least_one ranking.sizes.fpics index ∷ [])
      (cond (ltb index (ranking.nets + ranking.nets)) (at_most_one ranking.sizes.fpics (index - ranking.nets))
      (conflicts_at ranking ((index - (ranking.nets + ranking.nets)) / ranking.sizes.fpics) ((index - (ranking.nets + ranking.nets)) % ranking.sizes.fpics))))
      (lt-ltb index ranking.nets h)

  pub block_second : (index : ℕ) → ranking.nets ≤ index → index < ranking.nets + ranking.nets → block_at ranking index ≡ at_most_one ranking.sizes.fpics (index - ranking.nets)
  unfolding block_at
  block_second index l h =
      ap₂ (λ a b. cond a (at_least_one ranking.sizes.fpics index ∷ [])
      (cond b (at_most_one ranking.sizes.fpics (index - ranking.nets))
      (conflicts_at ranking ((index - (ranking.nets + ranking.nets)) / ranking.sizes.fpics) ((index - (ranking.nets + ranking.nets)) % ranking.sizes.fpics))))
      (le-ltb index ranking.nets l) (lt-ltb index (ranking.nets + ranking.nets) h)

  pub block_third : (index : ℕ) → ranking.nets + ranking.nets ≤ index →
      block_at ranking index ≡ conflicts_at ranking ((index - (ranking.nets + ranking.nets)) / ranking.sizes.fpics) ((index - (ranking.nets + ranking.nets)) % ranking.sizes.fpics)
  unfolding block_at
  block_third index l =
      ap₂ (λ a b. cond a (at_least_one ranking.sizes.fpics index ∷ [])
      (cond b (at_most_one ranking.sizes.fpics (index - ranking.nets))
      (conflicts_at ranking ((index - (ranking.nets + ranking.nets)) / ranking.sizes.fpics) ((index - (ranking.nets + ranking.nets)) % ranking.sizes.fpics))))
      (le-ltb index ranking.nets (omega arith)) (le-ltb index (ranking.nets + ranking.nets) l)

  firsts : flat_map (block_at ranking) (range_with_len 0 ranking.nets) ≡ map (at_least_one ranking.sizes.fpics) (range_with_len 0 ranking.nets)
  firsts =
      joined_same (block_at ranking) (λ r. at_least_one ranking.sizes.fpics r ∷ []) ranking.nets 0 0 (λ i l. block_first (0 + i) (omega arith))
      ∙ flat_map_single (at_least_one ranking.sizes.fpics) (range_with_len 0 ranking.nets)

  seconds : flat_map (block_at ranking) (range_with_len ranking.nets ranking.nets) ≡ flat_map (at_most_one ranking.sizes.fpics) (range_with_len 0 ranking.nets)
  seconds =
      joined_same (block_at ranking) (at_most_one ranking.sizes.fpics) ranking.nets ranking.nets 0 (λ i l.
      let e : ranking.nets + i - ranking.nets ≡ 0 + i = omega arith in
      block_second (ranking.nets + i) (omega arith) (omega arith) ∙ ap (at_most_one ranking.sizes.fpics) e)

  thirds : flat_map (block_at ranking) (range_with_len (ranking.nets + ranking.nets) (ranking.sizes.chips * ranking.sizes.fpics)) ≡ flat_map (λ place. flat_map (conflicts_at ranking place) (range_with_len 0 ranking.sizes.fpics)) (range_with_len 0 ranking.sizes.chips)
  thirds =
      joined_same (block_at ranking) (λ i. conflicts_at ranking (i / ranking.sizes.fpics) (i % ranking.sizes.fpics)) (ranking.sizes.chips * ranking.sizes.fpics) (ranking.nets + ranking.nets) (0 * ranking.sizes.fpics) (λ i l.
      let e : ranking.nets + ranking.nets + i - (ranking.nets + ranking.nets) ≡ 0 * ranking.sizes.fpics + i = omega (arith, zero-mul ranking.sizes.fpics) in
      block_third (ranking.nets + ranking.nets + i) (omega arith) ∙ ap (λ n. conflicts_at ranking (n / ranking.sizes.fpics) (n % ranking.sizes.fpics)) e)
      ∙ joined_rows (conflicts_at ranking) ranking.sizes.fpics ranking.sizes.chips 0

  all : all_blocks ranking ≡ map (at_least_one ranking.sizes.fpics) (range_with_len 0 ranking.nets)
      ++ (flat_map (at_most_one ranking.sizes.fpics) (range_with_len 0 ranking.nets)
      ++ flat_map (λ place. flat_map (conflicts_at ranking place) (range_with_len 0 ranking.sizes.fpics)) (range_with_len 0 ranking.sizes.chips))
  unfolding all_blocks
  all =
      joined_parts (block_at ranking) 0 (ranking.nets + ranking.nets) (ranking.sizes.chips * ranking.sizes.fpics)
      ∙ ap₂ (λ a b. a ++ b)
      (joined_parts (block_at ranking) 0 ranking.nets ranking.nets ∙ ap₂ (λ a b. a ++ b) firsts (ap (λ n. flat_map (block_at ranking) (range_with_len n ranking.nets)) (zero-add ranking.nets) ∙ seconds))
      (ap (λ n. flat_map (block_at ranking) (range_with_len n (ranking.sizes.chips * ranking.sizes.fpics))) (zero-add (ranking.nets + ranking.nets)) ∙ thirds)
      ∙ append_assoc (map (at_least_one ranking.sizes.fpics) (range_with_len 0 ranking.nets)) (flat_map (at_most_one ranking.sizes.fpics) (range_with_len 0 ranking.nets))
      (flat_map (λ place. flat_map (conflicts_at ranking place) (range_with_len 0 ranking.sizes.fpics)) (range_with_len 0 ranking.sizes.chips))

  -- they are the clauses of the board that was ranked
  module _ (held : Held) (sized : Sized held ranking) (ranks : Ranks held.rows ranking) where
    conflicts_are : (i t : ℕ) → conflicts_at ranking i t ≡ at_most_pins ranking.sizes.fpics ranking.sizes.pins (nets_of held.rows) (1 + i) t
    unfolding conflicts_at
    conflicts_are i t =
        let chip : i + 1 ≡ 1 + i = omega arith in
        ap (λ l. map (map (λ r. goes_not ranking.sizes.fpics r t)) (choose (ranking.sizes.pins + 1) l)) (ranks.lists i ∙ ap (λ c. ranks_from 0 c (nets_of held.rows)) chip)

    pub assembled : all_blocks ranking ≡ clauses held
    unfolding clauses
    assembled =
        let of : (p k m n : ℕ) → List (List ℤ) = λ p k m n.
        map (at_least_one k) (range_with_len 0 n) ++ (flat_map (at_most_one k) (range_with_len 0 n) ++ flat_map (λ chip. flat_map (at_most_pins k m (nets_of held.rows) chip) (range_with_len 0 k)) (range_with_len 1 p)) in
        let chips : flat_map (λ place. flat_map (conflicts_at ranking place) (range_with_len 0 ranking.sizes.fpics)) (range_with_len 0 ranking.sizes.chips) ≡
        flat_map (λ chip. flat_map (at_most_pins ranking.sizes.fpics ranking.sizes.pins (nets_of held.rows) chip) (range_with_len 0 ranking.sizes.fpics)) (range_with_len 1 ranking.sizes.chips) =
        joined_same (λ place. flat_map (conflicts_at ranking place) (range_with_len 0 ranking.sizes.fpics)) (λ chip. flat_map (at_most_pins ranking.sizes.fpics ranking.sizes.pins (nets_of held.rows) chip) (range_with_len 0 ranking.sizes.fpics)) ranking.sizes.chips 0 1
        (λ i l. joined_same (conflicts_at ranking (0 + i)) (at_most_pins ranking.sizes.fpics ranking.sizes.pins (nets_of held.rows) (1 + i)) ranking.sizes.fpics 0 0
        (λ t h. ap (λ place. conflicts_at ranking place (0 + t)) (zero-add i) ∙ conflicts_are i (0 + t))) in
        all ∙ ap (λ l. map (at_least_one ranking.sizes.fpics) (range_with_len 0 ranking.nets) ++ (flat_map (at_most_one ranking.sizes.fpics) (range_with_len 0 ranking.nets) ++ l)) chips
        ∙ four of sized.chips sized.fpics sized.pins ranks.nets
      where
        four : {A : Type 0} (f : ℕ → ℕ → ℕ → ℕ → A) {a b c d p k m n : ℕ} → a ≡ p → b ≡ k → c ≡ m → d ≡ n → f a b c d ≡ f p k m n
        four f w x y z = cc

-- ---- the numbers of a block

pub numbers_at : Ranking → ℕ → List ℤ
numbers_at ranking index = encode (block_at ranking index)

pub numbers_are : (ranking : Ranking) (index : ℕ) → numbers_at ranking index ≡ encode (block_at ranking index)
unfolding numbers_at
numbers_are ranking index = refl

-- those of all blocks are the formula
pub numbers_all : (ranking : Ranking) → flat_map (numbers_at ranking) (range_with_len 0 (block_count ranking)) ≡ encode (all_blocks ranking)
unfolding numbers_at all_blocks
numbers_all ranking = sym (encode_joined (block_at ranking) (range_with_len 0 (block_count ranking)))

-- ---- the lines of a block

unfoldable pub lines_at : Ranking → ℕ → List ℕ
lines_at ranking index = flat_map line_of (block_at ranking index)

pub lines_all : (ranking : Ranking) → flat_map (lines_at ranking) (range_with_len 0 (block_count ranking)) ≡ flat_map line_of (all_blocks ranking)
unfolding lines_at all_blocks
lines_all ranking = sym (joined_joined line_of (block_at ranking) (range_with_len 0 (block_count ranking)))

-- there are at most 512 blocks
pub few_blocks : (ranking : Ranking) → block_count ranking ≤ 512
few_blocks ranking =
    let s = sizes ranking.sizes.chips ranking.sizes.fpics ranking.sizes.pins ranking.sizes.sized in
    omega (arith, ranking.held, mul-le ranking.sizes.chips ranking.sizes.fpics 32 8 s.0 s.2)
