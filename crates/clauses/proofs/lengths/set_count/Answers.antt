use Rattle.std.proofs.Common.{sym, ap, ◌∙◌}
use Rattle.subsets.proofs.Count.{tabled_some, tabled_at_most}
use Rattle.subsets.specs.Choose.{subset_count}
use Rattle.clauses.proofs.Totals.{count_whole}
use Rattle.clauses.proofs.lengths.set_count.Goals as goal

pub returns-then-size-count-clause-value : goal.returns-then-size-count-clause-value
returns-then-size-count-clause-value c = sym (ap (subset_count c.args.count) c.if-size-count.true ∙ count_whole c.args.count)

pub returns : goal.returns
returns c =
    let counted = sym c.unwrap.ensures ∙ c.subset_count.ensures.counted in
    record {
      value = tabled_some c.args.count c.args.size c.unwrap.result counted;
      bound = tabled_at_most c.args.count c.args.size c.unwrap.result counted;
    }
