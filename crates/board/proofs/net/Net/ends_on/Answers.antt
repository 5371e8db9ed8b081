use Rattle.std.proofs.Common.{◌^◌, ◌<◌, ◌≤◌, sym, rules}
use Rattle.board.proofs.Ends.{end_at, no_end_outside}
use Rattle.board.proofs.net.Net.ends_on.Goals as goal

pub returns-then-not-contains : goal.returns-then-not-contains
returns-then-not-contains c =
    let fits : c.args.self.now.ends < 2 ^ 32 = search rules in
    sym (no_end_outside 32 c.args.self.now.ends c.args.chip fits (λ low high. search rules))

pub returns : goal.returns
returns c =
    let low : 1 ≤ c.args.chip = search rules in
    sym (end_at c.args.self.now.ends c.args.chip low)
