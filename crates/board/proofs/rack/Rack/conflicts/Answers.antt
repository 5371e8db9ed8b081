use Rattle.std.proofs.Common.{◌≡◌, ℕ, ◌+◌, ◌^◌, refl, arith, rules}
use Rattle.std.proofs.lemmas.Iterator.{YieldsList-from_map}
use Rattle.std.proofs.lemmas.Iterator.Consumers.{YieldsList-at, sum_by_from_yields_List, fits_by_from_yields_list}
use Rattle.std.specs.List.{range_with_len}
use Rattle.subsets.specs.Choose.{subset_count}
use Rattle.board.specs.Measure.{conflicts_in}
use Rattle.board.specs.Rows.{load}
use Rattle.board.proofs.Counts.{conflicts_at_most}
use Rattle.board.proofs.Spans.{YieldsList-from_inclusive}
use Rattle.board.proofs.rack.Rack.conflicts.Goals as goal

pub sum-requires-clause-fits : goal.sum-requires-clause-fits
unfolding conflicts_in
sum-requires-clause-fits c =
    let rack = c.args.self.now in
    let h : ℕ → ℕ = λ chip. subset_count (load chip rack.table.rows) (rack.sizes.pins + 1) in
    fits_by_from_yields_list h (range_with_len 1 rack.sizes.chips) c.map.result (2 ^ 32)
    (YieldsList-from_map _ h (YieldsList-at c.map.ensures.source (YieldsList-from_inclusive _ _ (λ a b. refl) (λ a b e. e) 1 c.from.result rack.sizes.chips c.new.ensures.start c.new.ensures.end c.new.ensures.exhausted (omega arith))) c.map.ensures.closure (λ x r q k. search rules))
    (omega (arith, conflicts_at_most rack.sizes.chips rack.sizes.fpics rack.sizes.pins rack.table.rows rack.sizes.sized rack.loads))

pub returns : goal.returns
unfolding conflicts_in
returns c =
    let rack = c.args.self.now in
    let h : ℕ → ℕ = λ chip. subset_count (load chip rack.table.rows) (rack.sizes.pins + 1) in
    let value : c.sum.result ≡ conflicts_in (rack.sizes.pins + 1) rack.table.rows rack.sizes.chips =
    sum_by_from_yields_List h (range_with_len 1 rack.sizes.chips) c.map.result c.sum.result c.sum.ensures.ran
    (YieldsList-from_map _ h (YieldsList-at c.map.ensures.source (YieldsList-from_inclusive _ _ (λ a b. refl) (λ a b e. e) 1 c.from.result rack.sizes.chips c.new.ensures.start c.new.ensures.end c.new.ensures.exhausted (omega arith))) c.map.ensures.closure (λ x r q k. search rules)) in
    record { value = value; bound = omega (arith, conflicts_at_most rack.sizes.chips rack.sizes.fpics rack.sizes.pins rack.table.rows rack.sizes.sized rack.loads) }
