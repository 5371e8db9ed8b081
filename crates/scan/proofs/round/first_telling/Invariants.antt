use Rattle.std.proofs.Common.{◌≡◌, ◌-◌, length, drop}
use Rattle.sat.specs.Formula.{clauses_of}
use Rattle.scan.specs.Rounds.{first_telling}
use Rattle.scan.proofs.round.first_telling.Given as goal

abbrev pub invariant-loop-reading : goal.invariant-loop-reading
invariant-loop-reading l =
    first_telling l.values.slots l.place (clauses_of (drop l.place l.numbers))
    ≡ first_telling l.values.slots l.from (clauses_of (drop l.from l.numbers))

abbrev pub decreases-loop-reading : goal.decreases-loop-reading
decreases-loop-reading l = length l.numbers - l.place
