use Rattle.std.proofs.Common.{◌≡◌, ◌+◌, ◌*◌, ◌^◌, ◌<◌, pos, ap, ap₂, ◌∙◌, arith, w16}
use Rattle.std.proofs.lemmas.Int.{to_z_pos}
use Rattle.clauses.proofs.Variables.{variable_small}
use Rattle.clauses.proofs.ranking.Ranking.variable.Goals as goal
use Rattle.clauses.proofs.ranking.Ranking.variable.Goals.{After-fpics}

number : (c : After-fpics) → c.from.result * c.fpics.result + c.args.fpic + 1 ≡ c.args.rank * c.args.self.now.sizes.fpics + c.args.fpic + 1
number c = ap₂ (λ r k. r * k + c.args.fpic + 1) c.from.ensures c.fpics.ensures

small : (c : After-fpics) → c.from.result * c.fpics.result + c.args.fpic + 1 < 2 ^ 15
small c =
    let sizes = c.args.self.now.sizes in
    omega (arith, number c, variable_small sizes.chips sizes.fpics sizes.pins c.args.rank c.args.fpic sizes.sized c.ranges.rank.fits c.requires)

pub returns : goal.returns
returns c = to_z_pos w16 (c.from.result * c.fpics.result + c.args.fpic + 1) (small (goal.at.returns c).After-fpics) ∙ ap pos (number (goal.at.returns c).After-fpics)
