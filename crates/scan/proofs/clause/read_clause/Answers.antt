use Rattle.std.proofs.Common.{◌≡◌, drop, ap, sym, ◌∙◌, arith}
use Rattle.std.proofs.lemmas.List.{length-drop, take_all}
use Rattle.sat.specs.Formula.{clauses_of}
use Rattle.scan.proofs.Meaning.{told_first}
use Rattle.scan.proofs.clause.read_clause.Goals as goal

pub returns-clause-means : goal.returns-clause-means
returns-clause-means c =
    let rest : c.in_ok-get.field-0.now ≡ drop c.args.place c.args.numbers.now = c.in_ok-get.ensures.lookup.0.2 ∙ take_all _ _ (omega (arith, length-drop c.args.place c.args.numbers.now)) in
    told_first c.args.values.now.slots (clauses_of (drop c.args.place c.args.numbers.now)) _ c.in_ok-clause.clause.now _ (ap clauses_of (sym rest) ∙ c.in_ok-clause.ensures.first) c.of.ensures
