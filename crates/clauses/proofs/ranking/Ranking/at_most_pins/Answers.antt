use Rattle.std.proofs.Common.{◌≡◌, ℕ, ◌+◌, ◌<◌, [], ℤ, map, length, get_or, pos, ap, ◌∙◌, rules}
use Rattle.std.proofs.iter.runs.Made.{chains}
use Rattle.std.proofs.lemmas.List.{get_or_default}
use Rattle.subsets.specs.Choose.{choose}
use Rattle.subsets.proofs.Sublists.{choose-map}
use Rattle.plans.specs.Clauses.{goes_not}
use Rattle.clauses.specs.Blocks.{clauses_in, conflicts_at}
use Rattle.clauses.specs.Ranks.{ranks_at}
use Rattle.clauses.proofs.Sets.{mapped_by_index}
use Rattle.clauses.proofs.ranking.Ranking.at_most_pins.Goals as goal

pub literal_list-literals-requires-clause-room : goal.literal_list-literals-requires-clause-room
literal_list-literals-requires-clause-room c = search (rules, chains)

pub returns : goal.returns
unfolding clauses_in conflicts_at
returns c =
    let m = c.args.self.now.sizes.pins + 1 in
    let f : ℕ → ℤ = λ r. goes_not c.args.self.now.sizes.fpics r c.args.fpic in
    let items = c.literal_list-literals.result.items in
    let listed = c.as_slice-ranks.result.now in
    let ranks : listed ≡ ranks_at c.args.self.now c.args.place =
    c.as_slice-ranks.ensures.value ∙ ap (λ v. v.items) (get_or_default c.args.self.now.ranks c.args.place c.index-self-place.result (record { items = [] }) (search rules)) in
    let long : length items ≡ length listed = search (rules, chains) in
    let each : (i : ℕ) → i < length listed → get_or items i (pos 0) ≡ goes_not c.args.self.now.sizes.fpics (get_or listed i 0) c.args.fpic = λ i h. search (rules, chains) in
    let size : c.from-pins.result + 1 ≡ m = ap (λ n. n + 1) (c.from-pins.ensures ∙ c.pins.ensures) in
    ap (λ n. choose n items) size ∙ ap (choose m) (mapped_by_index f listed items long each ∙ ap (map f) ranks) ∙ choose-map f m (ranks_at c.args.self.now c.args.place)
