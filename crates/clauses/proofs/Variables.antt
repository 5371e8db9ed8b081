-- The numbers of variables, as they fit 16 bits.
use Rattle.std.proofs.Common.{◌≡◌, ℕ, ◌+◌, ◌*◌, ◌/◌, ◌^◌, ◌<◌, ◌≤◌, true, div-lt_iff_lt-mul, arith}
use Rattle.std.proofs.lemmas.Nat.{mul-le}
use Rattle.board.proofs.Counts.{sizes}
use Rattle.board.specs.Rows.{in_limits}

pub variable_small : (chips fpics pins rank fpic : ℕ) → in_limits chips fpics pins ≡ true → rank < 256 → fpic < fpics → rank * fpics + fpic + 1 < 2 ^ 15
variable_small chips fpics pins rank fpic e r t = let s = sizes chips fpics pins e in omega (arith, s.2, mul-le rank fpics 255 8 (omega arith) s.2)

-- the row of a place in a grid of rows of k
pub below_rows : (n rows k most : ℕ) → 0 < k → n < rows * k → rows ≤ most → n / k < most
below_rows n rows k most h l e = let d : n / k < rows = (div-lt_iff_lt-mul {k = k} {x = n} {y = rows} h).1 l in omega arith
