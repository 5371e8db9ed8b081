use Rattle.std.proofs.Common.{◌≡◌, length, ap, ◌∙◌, ap₂, arith}
use Rattle.sat.specs.Formula.{encode}
use Rattle.clauses.specs.Blocks.{clauses_in}
use Rattle.clauses.specs.Sets.{set_numbers}
use Rattle.clauses.proofs.Filling.{writes_as}
use Rattle.clauses.proofs.Sets.{sets_whole}
use Rattle.clauses.proofs.block.Block.write.Goals as goal
use Rattle.clauses.proofs.block.Block.write.Goals.{After-as_slice}

-- what is written are the block's clauses
whole : (c : After-as_slice) → set_numbers c.new-front.result.items c.args.self.now.size c.as_slice.result.now ≡ encode (clauses_in c.args.self.now)
unfolding clauses_in
whole c =
    ap₂ (λ front xs. set_numbers front c.args.self.now.size xs) c.new-front.ensures c.as_slice.ensures.value ∙ sets_whole c.args.self.now.size c.args.self.now.literals.items

pub write_sets-requires-clause-fits : goal.write_sets-requires-clause-fits
write_sets-requires-clause-fits c = omega (arith, c.requires, ap length (whole (goal.at.write_sets-requires-clause-fits c).After-as_slice))

pub returns : goal.returns
returns c = writes_as c.write_sets.ensures.writes (whole (goal.at.returns c).After-as_slice)
