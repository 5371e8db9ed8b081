use Rattle.std.proofs.Common.{◌≡◌, true, false, get_or, pos, sym, ap, ◌∙◌, w16, SFits, rules}
use Rattle.std.proofs.lemmas.Int.{to_z-of_z}
use Rattle.scan.specs.Values.{reads}
use Rattle.scan.specs.Edits.{assigned}
use Rattle.scan.specs.declared.value.Value.TheVariants.{Open, True, False}
use Rattle.scan.proofs.Assuming.{outcome, outcome_open, outcome_true, outcome_false, outcome_end}
use Rattle.scan.proofs.values.Values.assume.Goals as goal
use Rattle.scan.proofs.values.Values.assume.Goals.{in-Open, in-True}

pub returns-in-False : goal.returns-in-False
returns-in-False c =
    let f : SFits w16 (get_or c.args.literals.now c.loop-literal.literal-index (pos 0)) = search rules in
    let r : False ≡ reads c.loop-literal.self.slots (get_or c.args.literals.now c.loop-literal.literal-index (pos 0)) = simp to_z-of_z at c.in-False.ensures in
    let e : (false, c.loop-literal.self) ≡ outcome c.args.self.now c.args.literals.now = outcome_false _ _ _ c.loop-literal-test.true (sym r) ∙ c.loop-literal.invariant in
    record { answers = ap (λ p. p.0) e; leaves = ap (λ p. p.1) e }

pub loop-literal-preserved : goal.loop-literal-preserved
loop-literal-preserved c =
    let f : SFits w16 (get_or c.args.literals.now c.loop-literal.literal-index (pos 0)) = search rules in
    elim c.match-read.branch [
      | in-Open w ↦
          let r : Open ≡ reads c.loop-literal.self.slots (get_or c.args.literals.now c.loop-literal.literal-index (pos 0)) = simp to_z-of_z at w.in-Open.ensures in
          let e : w.assign.new.self ≡ assigned c.loop-literal.self (get_or c.args.literals.now c.loop-literal.literal-index (pos 0)) = simp to_z-of_z at w.assign.ensures in
          rw (w.self-is, e) (outcome_open _ _ _ c.loop-literal-test.true (sym r) ∙ c.loop-literal.invariant)
      | in-True w ↦
          let r : True ≡ reads c.loop-literal.self.slots (get_or c.args.literals.now c.loop-literal.literal-index (pos 0)) = simp to_z-of_z at w.in-True.ensures in
          rw w.self-is (outcome_true _ _ _ c.loop-literal-test.true (sym r) ∙ c.loop-literal.invariant)
    ]

pub returns : goal.returns
returns c =
    let e : (true, c.loop-literal.self) ≡ outcome c.args.self.now c.args.literals.now = outcome_end _ _ _ c.loop-literal-test.false ∙ c.loop-literal.invariant in
    record { answers = ap (λ p. p.0) e; leaves = ap (λ p. p.1) e }
