-- The size of a board's formula: N nets give each of k FPICs a variable.
-- A net has a clause of its k variables and a clause for each pair of them; each set of m + 1 nets of a chip has a clause at each FPIC.
use Rattle.std.specs.Prelude.{ℕ, ◌+◌, ◌-◌, ◌*◌, ◌/◌, ◌++◌, List, sum_by, Option, codes, decimal}
use Rattle.std.specs.List.{range_with_len}
use Rattle.subsets.specs.Choose.{subset_count}
use Rattle.board.specs.Held.{Held}
use Rattle.board.specs.Rows.{load, nets}
use Rattle.board.specs.declared.net.Net.{Net}
use Rattle.board.specs.declared.measure.Measure.{Measure}

-- the sets of so many nets of one chip, over the first chips
unfoldable pub conflicts_in : (size : ℕ) → List (Option Net) → (chips : ℕ) → ℕ
conflicts_in size rows chips = sum_by (λ chip. subset_count (load chip rows) size) (range_with_len 1 chips)

-- the sets of m + 1 nets of one chip, over all chips
abbrev pub conflicts : Held → ℕ
conflicts held = conflicts_in (held.pins + 1) held.rows held.chips

abbrev pub measured : Held → Measure
measured held =
    record {
      variables = nets held.rows * held.fpics;
      clauses = nets held.rows + nets held.rows * held.fpics * (held.fpics - 1) / 2 + held.fpics * conflicts held;
      literals = nets held.rows * held.fpics * held.fpics + held.fpics * (held.pins + 1) * conflicts held;
    }

-- such as `12 variables, 36 clauses, 96 literals`
abbrev pub measure_bytes : Measure → List ℕ
measure_bytes measure =
    decimal measure.variables ++ (codes " variables, " ++ (decimal measure.clauses ++ (codes " clauses, " ++ (decimal measure.literals ++ codes " literals"))))
