use Rattle.std.proofs.Common.{◌≡◌, min, length, None, sym, refl, ap, subst, rules}
use Rattle.std.specs.Result.{result_err}
use Rattle.sat.specs.Question.{refusal}
use Rattle.scan.specs.declared.values.TheConstants.{LARGEST}
use Rattle.forcing.specs.Fixing.{Lists, Fixes}
use Rattle.forcing.proofs.Below.{taken_from_none, solved_answered, answered_below}
use Rattle.forcing.proofs.layer.ForcingSolver.solve.Goals as goal

pub returns-then-fix : goal.returns-then-fix
returns-then-fix g c =
    let v = c.args.question.variables in
    let formula = c.args.question.formula.now in
    let assumed = c.args.question.assumed.now in
    let largest = min LARGEST (g.S.Solver.largest c.args.self.now.below) in
    let room = length c.args.valuation.now in
    let taken : result_err c.judge.result ≡ None = search rules in
    let none : refusal largest v formula assumed room ≡ None = rw (← c.largest.ensures, ← c.judge.ensures) taken in
    let lists : Lists v formula assumed c.deref.result.now = subst (Lists v formula assumed) (sym c.deref.ensures.0) (subst (Fixes c.args.question c.fix.new.fixed.items) c.if-fix.true c.fix.ensures) in
    let answer =
    answered_below g.S.Solver.largest g.S.Solver.tally c.args.question c.args.self.now.below c.solve.new.self c.args.valuation.now c.solve.new.valuation c.solve.result c.deref.result.now
    (taken_from_none largest v formula assumed room none) lists c.solve.ensures in
    solved_answered _ _ _ _ _ _ _ _ _ _ none (record { bound = ap (min LARGEST) answer.bound; count = refl; truth = answer.truth; behind = answer.behind })
