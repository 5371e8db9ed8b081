-- Plans, which of them are legal, and which of two is the earlier.
use Rattle.std.specs.Prelude.{◌≡◌, ℕ, ◌<◌, ◌≤◌, Bool, ◌&&◌, ◌⊎◌, List, [], ◌∷◌, map, Some, count_by, ◌==◌, ◌≢◌}
use Rattle.std.specs.List.{AllByRecursion}
use Rattle.board.specs.Held.{Held}
use Rattle.board.specs.Rows.{ends_on, row_of}
use Rattle.plans.specs.Nets.{lock_of, numbers_from}

-- one row of a plan: the net of this number goes by this FPIC, A being 0
pub record Row : Type 0 where
  pub number : ℕ
  pub fpic : ℕ

-- the row's net ends on a chip and goes by FPIC t
abbrev pub uses : Held → ℕ → ℕ → Row → Bool
uses held chip t row = ends_on chip (row_of held.rows row.number) && row.fpic == t

-- a plan fits the rack: every held net has one row, numbers rising, and one of the k FPICs;
-- for each chip and each FPIC at most m of the nets ending on that chip go by that FPIC
pub record Fits (held : Held) (plan : List Row) : Type 0 where
  pub nets : map (λ row. row.number) plan ≡ numbers_from 1 held.rows
  pub fpics : AllByRecursion (λ row. row.fpic < held.fpics) plan
  pub room : (chip t : ℕ) → count_by (uses held chip t) plan ≤ held.pins

-- a legal plan fits the rack, and each locked net goes by its lock
pub record Legal (held : Held) (plan : List Row) : Type 0 where
  pub fits : Fits held plan
  pub locks : AllByRecursion (λ row. (letter : ℕ) → lock_of (row_of held.rows row.number) ≡ Some letter → row.fpic ≡ letter) plan

-- of two plans of the same nets, the earlier has the earlier letter at the lowest net number where they differ
abbrev pub Earlier : List Row → List Row → Type 0
Earlier [] q = ⊥
Earlier (a ∷ p) [] = ⊥
Earlier (a ∷ p) (b ∷ q) = (a.number ≡ b.number) × ((a.fpic < b.fpic) ⊎ ((a.fpic ≡ b.fpic) × Earlier p q))

-- the earliest legal plan is legal, and earlier than every other legal one
pub record Earliest (held : Held) (plan : List Row) : Type 0 where
  pub legal : Legal held plan
  pub first : (other : List Row) → Legal held other → (other ≢ plan) → Earlier plan other
