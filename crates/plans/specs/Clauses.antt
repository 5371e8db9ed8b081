-- The clause list of a board. The variable of the net of rank r at FPIC t is r × k + t + 1.
use Rattle.std.specs.Prelude.{ℕ, ◌+◌, ◌*◌, cond, List, ◌++◌, map, length, ℤ, pos, negsuc, ◌==◌}
use Rattle.std.specs.List.{range_with_len, flat_map}
use Rattle.subsets.specs.Choose.{choose}
use Rattle.board.specs.Held.{Held}
use Rattle.board.specs.declared.net.Net.{Net}
use Rattle.plans.specs.Nets.{nets_of, ranks_from}
use Rattle.plans.specs.Plans.{Row}

-- the net of rank r goes by FPIC t, and it does not: the variable, and its negation
abbrev pub goes : (k r t : ℕ) → ℤ
goes k r t = pos (r * k + t + 1)

abbrev pub goes_not : (k r t : ℕ) → ℤ
goes_not k r t = negsuc (r * k + t)

-- a net goes by one of the k FPICs
abbrev pub at_least_one : (k r : ℕ) → List ℤ
at_least_one k r = map (goes k r) (range_with_len 0 k)

-- and by no two of them: a clause for each pair
abbrev pub at_most_one : (k r : ℕ) → List (List ℤ)
at_most_one k r = map (map (goes_not k r)) (choose 2 (range_with_len 0 k))

-- no m + 1 nets of a chip go by one FPIC: a clause for each set of them, in lexicographic order of rank
abbrev pub at_most_pins : (k m : ℕ) → List Net → (chip t : ℕ) → List (List ℤ)
at_most_pins k m nets chip t = map (map (λ r. goes_not k r t)) (choose (m + 1) (ranks_from 0 chip nets))

-- for each net its k variables; for each net its pairs; for each chip and each FPIC its sets
unfoldable pub clauses : Held → List (List ℤ)
clauses held =
    map (at_least_one held.fpics) (range_with_len 0 (length (nets_of held.rows)))
    ++ (flat_map (at_most_one held.fpics) (range_with_len 0 (length (nets_of held.rows)))
    ++ flat_map (λ chip. flat_map (at_most_pins held.fpics held.pins (nets_of held.rows) chip) (range_with_len 0 held.fpics)) (range_with_len 1 held.chips))

-- the valuation of a plan: for each row and each FPIC, 1 where the row goes by it, else 0
abbrev pub valuation_of : (k : ℕ) → List Row → List ℕ
valuation_of k plan = flat_map (λ row. map (λ t. cond (t == row.fpic) 1 0) (range_with_len 0 k)) plan
