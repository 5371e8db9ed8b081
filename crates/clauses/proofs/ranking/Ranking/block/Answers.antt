use Rattle.std.proofs.Common.{◌≡◌, ℕ, ◌+◌, ◌-◌, ◌*◌, ◌/◌, ◌%◌, ◌<◌, sym, ap₂, subst, ◌∙◌, arith}
use Rattle.std.proofs.lemmas.Nat.{mod_below}
use Rattle.board.proofs.Counts.{sizes}
use Rattle.clauses.specs.Blocks.{conflicts_at}
use Rattle.clauses.proofs.Assembly.{block_first, block_second, block_third}
use Rattle.clauses.proofs.Variables.{below_rows}
use Rattle.clauses.proofs.ranking.Ranking.block.Goals as goal

pub returns-then-index-self : goal.returns-then-index-self
returns-then-index-self c = c.at_least_one.ensures ∙ sym (block_first c.args.self.now c.args.index c.if-index-self.true)

pub returns-then-index-self-2 : goal.returns-then-index-self-2
returns-then-index-self-2 c = c.at_most_one.ensures ∙ sym (block_second c.args.self.now c.args.index c.if-index-self.false (omega arith))

pub at_most_pins-requires : goal.at_most_pins-requires
at_most_pins-requires c =
    let k = c.args.self.now.sizes.fpics in
    let s = sizes c.args.self.now.sizes.chips k c.args.self.now.sizes.pins c.args.self.now.sizes.sized in
    let pair = c.args.index - 2 * c.args.self.now.nets in
    let Row : ℕ → Type 0 = λ n. pair / n < 32 in
    let Place : ℕ → Type 0 = λ n. pair % n < k in
    record {
      place = subst Row (sym c.fpics-fpics.ensures) (below_rows pair c.args.self.now.sizes.chips k 32 s.1 (omega (arith, c.requires)) s.0);
      fpic = subst Place (sym c.fpics-fpics.ensures) (mod_below pair k s.1);
    }

pub returns : goal.returns
returns c =
    let two : 2 * c.args.self.now.nets ≡ c.args.self.now.nets + c.args.self.now.nets = omega arith in
    c.at_most_pins.ensures ∙ ap₂ (λ n k. conflicts_at c.args.self.now ((c.args.index - n) / k) ((c.args.index - n) % k)) two c.fpics-fpics.ensures ∙ sym (block_third c.args.self.now c.args.index (omega arith))
