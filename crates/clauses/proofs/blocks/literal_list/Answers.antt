use Rattle.std.proofs.Common.{◌≡◌, sym, ◌∙◌, rules}
use Rattle.std.proofs.iter.runs.Made.{run_of_exit}
use Rattle.clauses.proofs.blocks.literal_list.Goals as goal

pub returns : goal.returns
returns g c =
    let same : c.into_iter-literal-iterator.result ≡ c.args.literals = search rules in
    let run = run_of_exit g.I.Iterator.next_gives c.into_iter-literal-iterator.result c.loop-literal.yielded c.loop-literal.literal-iterator c.loop-literal.yielded_by c.next.new.self c.in-None.ensures.steps in
    (run.0, run.1 ∙ same, run.2, run.3.0 ∙ sym c.loop-literal.invariant)
