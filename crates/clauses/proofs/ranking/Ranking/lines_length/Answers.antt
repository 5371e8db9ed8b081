use Rattle.std.proofs.Common.{◌≡◌, ◌^◌, ◌≤◌, ℕ, length, ◌<◌, get_or, sum, sym, ap, ◌∙◌, All, arith, rules}
use Rattle.std.proofs.iter.runs.Sources.{ranges}
use Rattle.std.proofs.iter.Yields.{fold-add-map}
use Rattle.std.proofs.lemmas.List.FromFn.{fill_by_all}
use Rattle.std.proofs.lemmas.List.Concat.{length-flat_map}
use Rattle.std.proofs.lemmas.List.Sums.{sum_by-le}
use Rattle.std.specs.List.{flat_map, range_with_len}
use Rattle.clauses.specs.Blocks.{block_at, block_count}
use Rattle.clauses.specs.Text.{line_of}
use Rattle.clauses.proofs.Assembly.{few_blocks, lines_at, lines_all}
use Rattle.clauses.proofs.ranking.Ranking.lines_length.Goals as goal

pub sum-requires-clause-fits : goal.sum-requires-clause-fits
sum-requires-clause-fits c p seen from =
    let few : p.len ≤ block_count c.args.self.now = search (rules, ranges) in
    let each : All (λ n. n ≤ 2 ^ 27) p.items = λ i d h. search (rules, ranges) in
    omega (arith, few, p.long, few_blocks c.args.self.now, sum_by-le (λ n. n) (2 ^ 27) p.items each)

pub returns-clause-value : goal.returns-clause-value
unfolding lines_at
returns-clause-value c =
    let n = block_count c.args.self.now in
    let bytes : ℕ → ℕ = λ i. length (flat_map line_of (block_at c.args.self.now i)) in
    let run = c.sum.ensures.runs tt in
    let items = run.0.items in
    let long : length items ≡ n = search (rules, ranges) in
    let each : (i : ℕ) → i < n → get_or items i 0 ≡ length (flat_map line_of (block_at c.args.self.now i)) = λ i h. search (rules, ranges) in
    run.3 ∙ ap sum (fill_by_all bytes items n 0 long each) ∙ sym (fold-add-map bytes 0 (range_with_len 0 n)) ∙ sym (length-flat_map (lines_at c.args.self.now) (range_with_len 0 n))
    ∙ ap length (lines_all c.args.self.now)

pub returns-clause-bound : goal.returns-clause-bound
returns-clause-bound c =
    let run = c.sum.ensures.runs tt in
    let p = run.0 in
    let few : p.len ≤ block_count c.args.self.now = search (rules, ranges) in
    let each : All (λ n. n ≤ 2 ^ 27) p.items = λ i d h. search (rules, ranges) in
    omega (arith, few, p.long, few_blocks c.args.self.now, sum_by-le (λ n. n) (2 ^ 27) p.items each, run.3)
