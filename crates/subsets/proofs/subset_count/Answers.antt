-- `subset_count` reads the count at its place: the table keeps Pascal's rule, by a test that antt computes.
use Rattle.std.proofs.Common.{sym, ◌∙◌, rules}
use Rattle.subsets.proofs.Sublists.{length-choose}
use Rattle.subsets.proofs.Table.{found, missing}
use Rattle.subsets.proofs.subset_count.Goals as goal

pub returns-in_err-k : goal.returns-in_err-k
returns-in_err-k c =
    record { counted = c.from_residual.ensures ∙ sym (missing c.args.d c.args.s c.in_err-k.ensures); sublists = length-choose }

pub returns : goal.returns
returns c = let placed = c.in_ok-k.ensures in record { counted = search (rules, found); sublists = length-choose }
