use Rattle.std.proofs.Common.{◌≡◌, ℕ, ◌^◌, cond, is_some, Option, arith, rules, tests}
use Rattle.std.proofs.lemmas.Iterator.{YieldsList-from_map, YieldsList-from_slice}
use Rattle.std.proofs.lemmas.Iterator.Consumers.{YieldsList-at, sum_by_from_yields_List, fits_by_from_yields_list}
use Rattle.std.proofs.lemmas.List.Sums.{count_by-le-length}
use Rattle.board.specs.Rows.{nets}
use Rattle.board.specs.declared.net.Net.{Net}
use Rattle.board.proofs.table.Table.count.Goals as goal

pub sum-requires-clause-fits : goal.sum-requires-clause-fits
sum-requires-clause-fits c =
    let rows = c.args.self.now.rows in
    let counts : Option Net → ℕ = λ row. cond (is_some row) 1 0 in
    fits_by_from_yields_list counts rows c.map.result (2 ^ 32)
    (YieldsList-from_map _ counts (YieldsList-at c.map.ensures.source (YieldsList-from_slice rows c.iter.ensures.rest)) c.map.ensures.closure (λ x r q k. search (rules, tests)))
    (omega (arith, count_by-le-length is_some rows, c.args.self.now.long))

pub returns : goal.returns
unfolding nets
returns c =
    let rows = c.args.self.now.rows in
    let counts : Option Net → ℕ = λ row. cond (is_some row) 1 0 in
    let value : c.sum.result ≡ nets rows =
    sum_by_from_yields_List counts rows c.map.result c.sum.result c.sum.ensures.ran
    (YieldsList-from_map _ counts (YieldsList-at c.map.ensures.source (YieldsList-from_slice rows c.iter.ensures.rest)) c.map.ensures.closure (λ x r q k. search (rules, tests))) in
    record { value = value; bound = omega (arith, value, count_by-le-length is_some rows, c.args.self.now.long) }
