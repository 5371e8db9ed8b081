use Rattle.std.proofs.Common.{◌≡◌, ℕ, ◌<◌, length, get_or, pos, ap, ◌∙◌, rules}
use Rattle.std.proofs.iter.runs.Sources.{ranges}
use Rattle.std.specs.List.{range_with_len}
use Rattle.subsets.specs.Choose.{choose}
use Rattle.subsets.proofs.Sublists.{choose-map}
use Rattle.plans.specs.Clauses.{goes_not}
use Rattle.clauses.specs.Blocks.{clauses_in}
use Rattle.clauses.proofs.Sets.{filled}
use Rattle.clauses.proofs.ranking.Ranking.at_most_one.Goals as goal

pub literal_list-literals-requires-clause-room : goal.literal_list-literals-requires-clause-room
literal_list-literals-requires-clause-room c = search (rules, ranges)

pub returns : goal.returns
unfolding clauses_in
returns c =
    let k = c.args.self.now.sizes.fpics in
    let f = goes_not k c.args.rank in
    let items = c.literal_list-literals.result.items in
    let long : length items ≡ c.fpics.result = search (rules, ranges) in
    let each : (i : ℕ) → i < c.fpics.result → get_or items i (pos 0) ≡ goes_not k c.args.rank i = λ i h. search (rules, ranges) in
    ap (choose 2) (filled f items c.fpics.result k c.fpics.ensures long each) ∙ choose-map f 2 (range_with_len 0 k)
