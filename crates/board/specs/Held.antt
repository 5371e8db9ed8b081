-- What is held, which edits are declined, and what is held after an edit.
use Rattle.std.specs.Prelude.{ℕ, ◌+◌, ◌-◌, ◌*◌, Bool, false, cond, not, List, [], ◌∷◌, replicate, is_some, Some, None, Ok, Err, Option, Result, nat_lt, slice_set}
use Rattle.board.specs.Finds.{is_number}
use Rattle.board.specs.Rows.{row_of, relocked, are_ends, in_limits, lowest_full_in}
use Rattle.board.specs.declared.edit.Edit.{Edit}
use Rattle.board.specs.declared.edit.Edit.TheVariants.{Make, Add, Drop, Lock, Unlock}
use Rattle.board.specs.declared.net.Net.{Net}
use Rattle.board.specs.declared.refusal.Refusal.{Refusal}
use Rattle.board.specs.declared.refusal.Refusal.TheVariants.{SizesOutsideLimits, NetOutsideLimits, AlreadyHeld, NotHeld, UnfitEnds, ChipFull, NoSuchFpic, NotLocked}

-- what a board holds: p chips, k FPICs, m pins in a group, and the rows of its nets
pub record Held : Type 0 where
  pub chips : ℕ
  pub fpics : ℕ
  pub pins : ℕ
  pub rows : List (Option Net)

-- 2 chips, 1 FPIC, 1 pin and no nets
abbrev pub blank : Held
blank = record { chips = 2; fpics = 1; pins = 1; rows = replicate 128 None }

abbrev pub is_held : Held → ℕ → Bool
is_held held net = is_some (row_of held.rows net)

abbrev pub has_lock : Option Net → Bool
has_lock None = false
has_lock (Some net) = is_some net.lock

-- the lowest end that is full, with k × m nets
abbrev pub lowest_full : Held → ℕ → Option ℕ
lowest_full held ends = lowest_full_in (held.fpics * held.pins) held.rows ends

abbrev pub chip_full : Option ℕ → Option Refusal
chip_full None = None
chip_full (Some chip) = Some (ChipFull chip)

-- the first refusal that applies to an edit, by what is held just before
abbrev pub judged : Held → Edit → Option Refusal
judged held (Make chips fpics pins) =
    cond (not (in_limits chips fpics pins)) (Some SizesOutsideLimits)
    None
judged held (Add net ends) =
    cond (not (is_number net)) (Some NetOutsideLimits)
    (cond (is_held held net) (Some AlreadyHeld)
    (cond (not (are_ends held.chips ends)) (Some UnfitEnds)
    (chip_full (lowest_full held ends))))
judged held (Drop net) =
    cond (not (is_number net)) (Some NetOutsideLimits)
    (cond (not (is_held held net)) (Some NotHeld)
    None)
judged held (Lock net letter) =
    cond (not (is_number net)) (Some NetOutsideLimits)
    (cond (not (is_held held net)) (Some NotHeld)
    (cond (not (nat_lt letter held.fpics)) (Some NoSuchFpic)
    None))
judged held (Unlock net) =
    cond (not (is_number net)) (Some NetOutsideLimits)
    (cond (not (is_held held net)) (Some NotHeld)
    (cond (not (has_lock (row_of held.rows net))) (Some NotLocked)
    None))

-- what is held with another row for a net
abbrev pub with_row : Held → ℕ → Option Net → Held
with_row held net row = record { chips = held.chips; fpics = held.fpics; pins = held.pins; rows = slice_set held.rows (net - 1) row }

-- what an edit makes of what is held, where nothing declines it
abbrev pub changed : Held → Edit → Held
changed held (Make chips fpics pins) = record { chips = chips; fpics = fpics; pins = pins; rows = replicate 128 None }
changed held (Add net ends) = with_row held net (Some (record { ends = ends; lock = None }))
changed held (Drop net) = with_row held net None
changed held (Lock net letter) = with_row held net (relocked (Some letter) (row_of held.rows net))
changed held (Unlock net) = with_row held net (relocked None (row_of held.rows net))

abbrev pub unless_refused : Option Refusal → Held → Held → Held
unless_refused None new old = new
unless_refused (Some e) new old = old

-- what is held after an edit: a declined one leaves it
abbrev pub after : Held → Edit → Held
after held edit = unless_refused (judged held edit) (changed held edit) held

-- what is held after a list of edits, in order
abbrev pub after_all : Held → List Edit → Held
after_all held [] = held
after_all held (edit ∷ edits) = after_all (after held edit) edits

-- the answer to an edit
abbrev pub answer : Option Refusal → Result (Unit {0}) Refusal
answer None = Ok tt
answer (Some e) = Err e

-- how many of a list of edits are declined
abbrev pub refused_in : Held → List Edit → ℕ
refused_in held [] = 0
refused_in held (edit ∷ edits) = cond (is_some (judged held edit)) 1 0 + refused_in (after held edit) edits
