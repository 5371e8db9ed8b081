-- The notice of each refusal of the program.
use Rattle.clauses.specs.Buffers.{number}
use Rattle.netlist.specs.Notices as netlist
use Rattle.netlist.specs.declared.notice.Notice.{Notice}
use Rattle.netlist.specs.declared.notice.Notice.TheVariants.{Plain}
use Rattle.cnf.specs.declared.refused.Refused.{Refused}
use Rattle.cnf.specs.declared.refused.Refused.TheVariants.{Netlist, Short}

-- a short buffer is told by its number alone
abbrev pub notice_of : Refused → Notice
notice_of (Netlist fault) = netlist.notice_of fault
notice_of (Short short) = Plain (number short)
