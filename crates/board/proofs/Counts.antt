-- The sums of a board's measure: the sets of m + 1 nets, chip by chip, and bounds that rule out overflow.
use Rattle.std.proofs.Common.{◌≡◌, ℕ, ◌+◌, ◌-◌, ◌*◌, ◌≤◌, true, ◌&&◌, leb, List, All, Option, arith, rules}
use Rattle.std.proofs.lemmas.Nat.{mul-le}
use Rattle.std.proofs.lemmas.List.FromFn.{length-range_with_len}
use Rattle.std.proofs.lemmas.List.Sums.{sum_by-le}
use Rattle.std.proofs.lemmas.Bool.{and_parts, leb-true}
use Rattle.std.specs.List.{range_with_len}
use Rattle.subsets.specs.Choose.{subset_count}
use Rattle.subsets.proofs.Count.{count_at_most}
use Rattle.board.specs.Measure.{conflicts_in}
use Rattle.board.specs.Rows.{in_limits, load}
use Rattle.board.specs.declared.net.Net.{Net}

-- the sizes' limits, as numbers
pub sizes : (chips fpics pins : ℕ) → in_limits chips fpics pins ≡ true → (chips ≤ 32) × (1 ≤ fpics) × (fpics ≤ 8) × (pins ≤ 4)
sizes chips fpics pins e =
    let s = and_parts (leb 2 chips && leb chips 32) ((leb 1 fpics && leb fpics 8) && (leb 1 pins && leb pins 4)) e in
    let t = and_parts (leb 1 fpics && leb fpics 8) (leb 1 pins && leb pins 4) s.1 in
    let k = and_parts (leb 1 fpics) (leb fpics 8) t.0 in (
      leb-true chips 32 (and_parts (leb 2 chips) (leb chips 32) s.0).1,
      leb-true 1 fpics k.0,
      leb-true fpics 8 k.1,
      leb-true pins 4 (and_parts (leb 1 pins) (leb pins 4) t.1).1,
    )

-- a chip has at most 32 nets
pub few_nets : (chips fpics pins : ℕ) (rows : List (Option Net)) (chip : ℕ) → in_limits chips fpics pins ≡ true → load chip rows ≤ fpics * pins → load chip rows ≤ 32
few_nets chips fpics pins rows chip e l = let s = sizes chips fpics pins e in omega (arith, mul-le fpics pins 8 4 s.2 s.3)

-- no sum or product of a measure passes 2 ^ 32
pub record Small (nets fpics pins sets : ℕ) : Type 0 where
  pub pairs : nets * fpics * (fpics - 1) ≤ 7168
  pub squares : nets * fpics * fpics ≤ 8192
  pub clauses : fpics * sets ≤ 51552256
  pub literals : fpics * (pins + 1) * sets ≤ 257761280

pub small : (nets chips fpics pins sets : ℕ) → nets ≤ 128 → in_limits chips fpics pins ≡ true → sets ≤ 32 * 201376 → Small nets fpics pins sets
small nets chips fpics pins sets n e t =
    let s = sizes chips fpics pins e in
    let k : nets * fpics ≤ 128 * 8 = mul-le nets fpics 128 8 n s.2 in
    record {
      pairs = omega (arith, mul-le (nets * fpics) (fpics - 1) 1024 7 (omega arith) (omega (arith, s.2)));
      squares = omega (arith, mul-le (nets * fpics) fpics 1024 8 (omega arith) s.2);
      clauses = omega (arith, mul-le fpics sets 8 6444032 s.2 (omega arith));
      literals = omega (arith, mul-le (fpics * (pins + 1)) sets 40 6444032 (omega (arith, mul-le fpics (pins + 1) 8 5 s.2 (omega (arith, s.3)))) (omega arith));
    }

-- the sets of all chips, where each chip has few
pub conflicts_in_bound : (size : ℕ) (rows : List (Option Net)) (chips n : ℕ) → ((chip : ℕ) → subset_count (load chip rows) size ≤ n) → conflicts_in size rows chips ≤ chips * n
unfolding conflicts_in
conflicts_in_bound size rows chips n few =
    let each : All (λ chip. subset_count (load chip rows) size ≤ n) (range_with_len 1 chips) = search rules in
    let all = sum_by-le (λ chip. subset_count (load chip rows) size) n (range_with_len 1 chips) each in
    rw length-range_with_len at all

-- and those of a board
pub conflicts_at_most : (chips fpics pins : ℕ) (rows : List (Option Net)) → in_limits chips fpics pins ≡ true → ((chip : ℕ) → load chip rows ≤ fpics * pins) →
    conflicts_in (pins + 1) rows chips ≤ 32 * 201376
conflicts_at_most chips fpics pins rows e loads =
    let s = sizes chips fpics pins e in
    let few : (chip : ℕ) → subset_count (load chip rows) (pins + 1) ≤ 201376 = λ chip. count_at_most (load chip rows) (pins + 1) (few_nets chips fpics pins rows chip e (loads chip)) (omega (arith, s.3)) in
    omega (arith, conflicts_in_bound (pins + 1) rows chips 201376 few, s.0)
