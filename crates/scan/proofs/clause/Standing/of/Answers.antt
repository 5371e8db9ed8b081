use Rattle.std.proofs.Common.{◌≡◌, get_or, pos, sym, ◌∙◌, w16, SFits, rules}
use Rattle.std.proofs.lemmas.Int.{to_z-of_z}
use Rattle.scan.specs.Values.{reads}
use Rattle.scan.specs.Clauses.{with_open}
use Rattle.scan.specs.declared.value.Value.TheVariants.{Open, False}
use Rattle.scan.proofs.Steps.{going_judged, going_false, going_open}
use Rattle.scan.proofs.clause.Standing.of.Goals as goal
use Rattle.scan.proofs.clause.Standing.of.Goals.{in-False, in-Open}

pub loop-literal-init : goal.loop-literal-init
loop-literal-init c = going_judged c.args.values.now.slots c.args.clause.now

pub loop-literal-preserved : goal.loop-literal-preserved
loop-literal-preserved c =
    let f : SFits w16 (get_or c.args.clause.now c.loop-literal.literal-index (pos 0)) = search rules in
    elim c.match-read.branch [
      | in-False w ↦
          let r : False ≡ reads c.args.values.now.slots (get_or c.args.clause.now c.loop-literal.literal-index (pos 0)) = simp to_z-of_z at w.in-False.ensures in
          rw w.standing-is (going_false _ _ _ _ c.loop-literal-test.true (sym r) ∙ c.loop-literal.invariant)
      | in-Open w ↦
          let r : Open ≡ reads c.args.values.now.slots (get_or c.args.clause.now c.loop-literal.literal-index (pos 0)) = simp to_z-of_z at w.in-Open.ensures in
          let e : w.with_open-standing.result ≡ with_open c.loop-literal.standing (get_or c.args.clause.now c.loop-literal.literal-index (pos 0)) = simp to_z-of_z at w.with_open-standing.ensures in
          rw (w.standing-is, e) (going_open _ _ _ _ c.loop-literal-test.true (sym r) ∙ c.loop-literal.invariant)
    ]
