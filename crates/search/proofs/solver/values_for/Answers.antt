use Rattle.std.proofs.Common.{sym, ap, ◌∙◌, subst}
use Rattle.search.specs.Suiting.{Going}
use Rattle.search.proofs.Beginning.{opposed_none, begins, found_yes}
use Rattle.search.proofs.solver.values_for.Goals as goal

pub returns-then-not-assume : goal.returns-then-not-assume
returns-then-not-assume c = opposed_none c.args.question c.requires.formed c.new-values.result c.new-values.ensures (sym c.if-not-assume.ensures.answers)

pub run-requires : goal.run-requires
run-requires c =
    subst Going (sym c.new-state.ensures)
    (begins c.args.question c.requires.formed c.new-values.result c.new-values.ensures c.requires.bounded (sym c.if-not-assume.ensures.answers) c.assume.new.self c.assume.ensures.leaves)

pub returns-in-Yes : goal.returns-in-Yes
returns-in-Yes c = found_yes c.args.question c.run.new.self (c.in-Yes.ensures.same ∙ ap (λ s. s.question) c.new-state.ensures) c.in-Yes.ensures.ended
