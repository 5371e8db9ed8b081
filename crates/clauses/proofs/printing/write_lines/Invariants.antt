use Rattle.std.proofs.Common.{take}
use Rattle.std.specs.List.{flat_map}
use Rattle.clauses.specs.Filling.{Writes}
use Rattle.clauses.specs.Text.{printed}
use Rattle.clauses.proofs.printing.write_lines.Given as goal

abbrev pub invariant-loop-number : goal.invariant-loop-number
invariant-loop-number l = Writes (flat_map printed (take l.number-index l.numbers)) l.initial.out l.out l.count
