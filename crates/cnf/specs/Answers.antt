-- What the program answers to a netlist: it is read into a blank board, and the board's text is printed.
use Rattle.std.specs.Prelude.{◌≡◌, ℕ, List, ℤ, Ok, Err, Result}
use Rattle.board.specs.Held.{Held, blank}
use Rattle.clauses.specs.Text.{Printed}
use Rattle.clauses.specs.declared.buffer.ShortBuffer.{ShortBuffer}
use Rattle.netlist.specs.Reads.{Reads}
use Rattle.netlist.specs.declared.fault.Fault.{Fault}
use Rattle.cnf.specs.declared.refused.Refused.{Refused}
use Rattle.cnf.specs.declared.refused.Refused.TheVariants.{Netlist, Short}

-- a short buffer refuses, with all its details
abbrev pub told : Result ℕ ShortBuffer → Result ℕ Refused
told (Ok count) = Ok count
told (Err short) = Err (Short short)

-- a fault of the netlist refuses, and nothing is written; else the text is printed
abbrev pub Says : Held → Result (Unit {0}) Fault → (formula formula' : List ℤ) (out out' : List ℕ) → Result ℕ Refused → Type 0
Says held (Err fault) formula formula' out out' r = (r ≡ Err (Netlist fault)) × (formula' ≡ formula) × (out' ≡ out)
Says held (Ok _) formula formula' out out' r = (printed : Result ℕ ShortBuffer) × Printed held formula formula' out out' printed × (r ≡ told printed)

pub record Answered (netlist : List ℕ) (formula formula' : List ℤ) (out out' : List ℕ) (r : Result ℕ Refused) : Type 0 where
  pub outcome : Result (Unit {0}) Fault
  pub held : Held
  pub reads : Reads blank netlist outcome held
  pub says : Says held outcome formula formula' out out' r
