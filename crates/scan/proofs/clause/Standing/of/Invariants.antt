use Rattle.std.proofs.Common.{◌≡◌, drop}
use Rattle.scan.specs.Clauses.{judged}
use Rattle.scan.proofs.Steps.{going}
use Rattle.scan.proofs.clause.Standing.of.Given as goal

abbrev pub invariant-loop-literal : goal.invariant-loop-literal
invariant-loop-literal l = going l.values.slots l.standing (drop l.literal-index l.clause) ≡ judged l.values.slots l.clause
