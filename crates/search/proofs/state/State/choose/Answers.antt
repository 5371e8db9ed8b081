use Rattle.std.proofs.Common.{◌≡◌, ◌^◌, ◌<◌, pos, ap, ◌∙◌, arith, w16, to_z}
use mir.Val.{hbits}
use Rattle.std.proofs.lemmas.Int.{to_z_pos}
use Rattle.search.specs.States.{pushed}
use Rattle.search.specs.Moods.{chosen_as}
use Rattle.search.specs.declared.state.Entry.TheVariants.{Choice}
use Rattle.search.proofs.Moments.{chosen_room}
use Rattle.search.proofs.state.State.choose.Goals as goal

pub push-requires : goal.push-requires
push-requires c = chosen_room c.args.self.now c.requires.0 c.in-Some.variable c.in-Some.ensures.lowest

pub returns-in-Some-clause-leaves : goal.returns-in-Some-clause-leaves
returns-in-Some-clause-leaves c =
    let h : c.in-Some.variable < 2 ^ hbits w16 = omega (arith, c.in-Some.ensures.lowest.1, c.requires.0.bounded) in
    let e : to_z w16 c.in-Some.variable ≡ pos c.in-Some.variable = to_z_pos w16 c.in-Some.variable h in
    c.push.ensures ∙ ap (λ z. pushed c.args.self.now (Choice z)) e ∙ ap (λ o. (chosen_as c.args.self.now o).0) c.in-Some.ensures.answers
