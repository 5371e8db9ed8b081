-- What each board holds.
use Rattle.board.specs.Held.{Held}
use Rattle.board.specs.declared.open.OpenBoard.{OpenBoard}
use Rattle.board.specs.declared.rack.Rack.{Rack}
use Rattle.board.specs.declared.sealed.SealedBoard.{SealedBoard}

abbrev pub held_in : Rack → Held
held_in rack = record { chips = rack.sizes.chips; fpics = rack.sizes.fpics; pins = rack.sizes.pins; rows = rack.table.rows }

abbrev pub held_open : OpenBoard → Held
held_open board = held_in board.rack

abbrev pub held_sealed : SealedBoard → Held
held_sealed board = held_in board.rack
