use Rattle.std.proofs.Common.{◌≡◌, ◌<◌, ◌∙◌, Some, set, sym, ap, subst, w16, SFits, rules}
use Rattle.std.proofs.lemmas.Int.{to_z-of_z}
use Rattle.sat.specs.Formula.{variable, clauses_of}
use Rattle.scan.specs.Values.{truth, opens}
use Rattle.scan.specs.Rounds.{Finds}
use Rattle.scan.specs.declared.round.Telling.TheVariants.{Forced}
use Rattle.forcing.proofs.Steps.{Keeps, Implies, forced_keeps, forced_implies, forced_falls}
use Rattle.forcing.proofs.fixing.force.Goals as goal

-- the values after the literal is made true
after : (c : goal.After-assign) → c.assign.new.self.slots ≡ set c.loop-literal.values.slots (variable c.in-Some-Forced.literal) (truth c.in-Some-Forced.literal)
after c =
    let f : SFits w16 c.in-Some-Forced.literal = search rules in
    simp to_z-of_z at (ap (λ v. v.slots) c.assign.ensures)

found : (c : goal.After-assign) → Finds c.loop-literal.values.slots (clauses_of c.args.formula.now) (Some (Forced c.in-Some-Forced.literal))
found c =
    let told = rw c.in-Some-Forced.is at c.in-Some-Forced.field-0-is in
    let e : c.look_around-round.result.found ≡ Some (Forced c.in-Some-Forced.literal) = c.in-Some-Forced.is ∙ ap Some told in
    subst (Finds c.loop-literal.values.slots (clauses_of c.args.formula.now)) e c.look_around-round.ensures.finds

pub loop-literal-smaller : goal.loop-literal-smaller
loop-literal-smaller c =
    subst (λ slots. opens slots < opens c.loop-literal.values.slots) (sym (after c))
    (forced_falls c.args.formula.now c.loop-literal.values.slots c.in-Some-Forced.literal c.loop-literal.values.long c.requires (found c))

pub loop-literal-preserved : goal.loop-literal-preserved
loop-literal-preserved c =
    record {
      keeps =
          subst (Keeps c.args.values.now.slots) (sym (after c))
          (forced_keeps c.args.formula.now c.loop-literal.values.slots c.in-Some-Forced.literal c.loop-literal.values.long c.requires (found c) c.args.values.now.slots c.loop-literal.invariant.keeps);
      implies =
          subst (Implies c.args.formula.now c.args.values.now.slots) (sym (after c))
          (forced_implies c.args.formula.now c.loop-literal.values.slots c.in-Some-Forced.literal c.loop-literal.values.long c.requires (found c) c.args.values.now.slots c.loop-literal.invariant.implies);
    }
