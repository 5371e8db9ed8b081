use Rattle.std.proofs.Common.{◌≡◌, ℕ, ◌<◌, [], ◌∷◌, length, get_or, pos, sym, ap, ◌∙◌, rules}
use Rattle.std.proofs.iter.runs.Sources.{ranges}
use Rattle.plans.specs.Clauses.{at_least_one, goes}
use Rattle.clauses.specs.Blocks.{clauses_in}
use Rattle.clauses.proofs.Sets.{choose_all, filled}
use Rattle.clauses.proofs.ranking.Ranking.at_least_one.Goals as goal

pub literal_list-literals-requires-clause-room : goal.literal_list-literals-requires-clause-room
literal_list-literals-requires-clause-room c = search (rules, ranges)

pub invariant_of-result-clause-whole : goal.invariant_of-result-clause-whole
invariant_of-result-clause-whole c h = let long : length c.literal_list-literals.result.items ≡ c.fpics-fpics.result = search (rules, ranges) in sym long

pub returns : goal.returns
unfolding clauses_in
returns c =
    let k = c.args.self.now.sizes.fpics in
    let items = c.literal_list-literals.result.items in
    let long : length items ≡ c.fpics-fpics.result = search (rules, ranges) in
    let each : (i : ℕ) → i < c.fpics-fpics.result → get_or items i (pos 0) ≡ goes k c.args.rank i = λ i h. search (rules, ranges) in
    let all : items ≡ at_least_one k c.args.rank = filled (goes k c.args.rank) items c.fpics-fpics.result k c.fpics-fpics.ensures long each in
    choose_all c.fpics-fpics.result items (sym long) ∙ ap (λ l. l ∷ []) all
