-- The net rows of a board: row n - 1 holds net n, or nothing.
use Rattle.std.specs.Prelude.{ℕ, zero, suc, ◌-◌, ◌/◌, ◌%◌, ◌^◌, Bool, true, false, ◌&&◌, List, is_some, Some, None, count_by, filter, find, Option, ◌==◌, count_ones, nat_le, nat_lt, slice_index_or}
use Rattle.std.specs.List.{range_with_len}
use Rattle.board.specs.declared.net.Net.{Net}

-- a set of chips holds chip c where its bit c - 1 is set; chips count from 1
unfoldable pub has_end : ℕ → ℕ → Bool
has_end ends zero = false
has_end ends (suc place) = ends / 2 ^ place % 2 == 1

-- the chips of a set, by rising number
unfoldable pub chips_of : ℕ → List ℕ
chips_of ends = filter (has_end ends) (range_with_len 1 32)

-- the row of a net number
abbrev pub row_of : List (Option Net) → ℕ → Option Net
row_of rows number = slice_index_or rows (number - 1) None

-- the row's net ends on a chip
abbrev pub ends_on : ℕ → Option Net → Bool
ends_on chip None = false
ends_on chip (Some net) = has_end net.ends chip

-- how many nets end on a chip
unfoldable pub load : ℕ → List (Option Net) → ℕ
load chip rows = count_by (ends_on chip) rows

-- how many nets there are
unfoldable pub nets : List (Option Net) → ℕ
nets rows = count_by (λ row. is_some row) rows

-- the row with another lock; an empty row stays empty
abbrev pub relocked : Option ℕ → Option Net → Option Net
relocked lock None = None
relocked lock (Some net) = Some (record { ends = net.ends; lock = lock })

-- two or more ends, and none above p: the set's ones are its chips, and a set of chips 1 to p is a number below 2 ^ p
abbrev pub are_ends : ℕ → ℕ → Bool
are_ends chips ends = nat_le 2 (count_ones ends) && nat_lt ends (2 ^ chips)

-- a lock is one of the first k FPICs
abbrev pub lock_within : ℕ → Option ℕ → Bool
lock_within fpics None = true
lock_within fpics (Some letter) = nat_lt letter fpics

-- what holds of every row
abbrev pub good_row : ℕ → ℕ → Option Net → Bool
good_row chips fpics None = true
good_row chips fpics (Some net) = are_ends chips net.ends && lock_within fpics net.lock

-- p from 2 to 32, k from 1 to 8, m from 1 to 4
abbrev pub in_limits : ℕ → ℕ → ℕ → Bool
in_limits chips fpics pins = (nat_le 2 chips && nat_le chips 32) && ((nat_le 1 fpics && nat_le fpics 8) && (nat_le 1 pins && nat_le pins 4))

-- the lowest end that has as many nets as the limit, or more
unfoldable pub lowest_full_in : ℕ → List (Option Net) → ℕ → Option ℕ
lowest_full_in limit rows ends = find (λ chip. nat_le limit (load chip rows)) (chips_of ends)
