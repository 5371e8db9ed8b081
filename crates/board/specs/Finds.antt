-- Finding the net of a number: the net, or that it is not held.
use Rattle.std.specs.Prelude.{ℕ, Bool, ◌&&◌, Some, None, Ok, Err, Option, Result, nat_le}
use Rattle.board.specs.declared.net.Net.{Net}
use Rattle.board.specs.declared.refusal.Refusal.{Refusal}
use Rattle.board.specs.declared.refusal.Refusal.TheVariants.{NotHeld}

-- the numbers that a net can have
abbrev pub is_number : ℕ → Bool
is_number net = nat_le 1 net && nat_le net 128

-- the net of a row, or that none is held
abbrev pub held : Option Net → Result Net Refusal
held None = Err NotHeld
held (Some net) = Ok net
