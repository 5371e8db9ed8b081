-- The printed text of a refusal.
use Rattle.std.specs.Prelude.{ℕ, List, ◌++◌, codes, decimal}
use Rattle.board.specs.Refusals as board
use Rattle.netlist.specs.Faults.{number}
use Rattle.netlist.specs.declared.fault.Fault.{Fault}
use Rattle.netlist.specs.declared.fault.Fault.TheVariants.{TooLong, NoForm, Declined}
use Rattle.netlist.specs.declared.notice.Notice.{Notice}
use Rattle.netlist.specs.declared.notice.Notice.TheVariants.{Plain, AtLine, WithCause}

-- 13 and 14 name the line, and 14 also the board's number as its cause
abbrev pub notice_of : Fault → Notice
notice_of TooLong = Plain (number TooLong)
notice_of (NoForm line) = AtLine (number (NoForm line)) line
notice_of (Declined line cause) = WithCause (number (Declined line cause)) line (board.number cause)

-- `refused 12`, `refused 13 line 3` and `refused 14 line 3 cause 6`
abbrev pub notice_bytes : Notice → List ℕ
notice_bytes (Plain number) = codes "refused " ++ decimal number
notice_bytes (AtLine number line) = codes "refused " ++ (decimal number ++ (codes " line " ++ decimal line))
notice_bytes (WithCause number line cause) = codes "refused " ++ (decimal number ++ (codes " line " ++ (decimal line ++ (codes " cause " ++ decimal cause))))
