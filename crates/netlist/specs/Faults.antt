-- The number of each fault of a netlist.
use Rattle.std.specs.Prelude.{ℕ}
use Rattle.netlist.specs.declared.fault.Fault.{Fault}
use Rattle.netlist.specs.declared.fault.Fault.TheVariants.{TooLong, NoForm, Declined}

abbrev pub number : Fault → ℕ
number TooLong = 12
number (NoForm line) = 13
number (Declined line cause) = 14
