-- The number of each refusal of an edit, and its text.
use Rattle.std.specs.Prelude.{ℕ, ◌++◌, List, codes, decimal}
use Rattle.board.specs.declared.refusal.Refusal.{Refusal}
use Rattle.board.specs.declared.refusal.Refusal.TheVariants.{SizesOutsideLimits, NetOutsideLimits, AlreadyHeld, NotHeld, UnfitEnds, ChipFull, NoSuchFpic, NotLocked}

abbrev pub number : Refusal → ℕ
number SizesOutsideLimits = 1
number NetOutsideLimits = 2
number AlreadyHeld = 3
number NotHeld = 4
number UnfitEnds = 5
number (ChipFull chip) = 6
number NoSuchFpic = 7
number NotLocked = 8

-- such as `refused 6`
abbrev pub refusal_bytes : Refusal → List ℕ
refusal_bytes refusal = codes "refused " ++ decimal (number refusal)
