use Rattle.std.proofs.Common.{◌≡◌, length, Ok, Err, refl, ap, ◌∙◌, arith}
use Rattle.std.proofs.lemmas.Result.{err_from_is_err_and}
use Rattle.board.specs.Views.{held_sealed}
use Rattle.clauses.specs.Formulas.{formula_of}
use Rattle.clauses.specs.declared.buffer.Buffer.TheVariants.{Formula}
use Rattle.clauses.proofs.Filling.{writes_as}
use Rattle.clauses.proofs.Sealed.{formula_is, length_formula, sealed_laws}
use Rattle.clauses.proofs.numbers.formula.Goals as goal
use Rattle.clauses.proofs.numbers.formula.Goals.{After-number_count-needed}

needed : (c : After-number_count-needed) → c.number_count-needed.result ≡ length (formula_of (held_sealed c.args.board.now))
needed c =
    let held = held_sealed c.args.board.now in
    c.number_count-needed.ensures ∙ length_formula held (sealed_laws c.args.board.now) c.measure.result c.measure.ensures

pub returns-in_err-check : goal.returns-in_err-check
returns-in_err-check c =
    let long = needed (goal.at.returns-in_err-check c).After-number_count-needed in
    let p = err_from_is_err_and c.from_residual.result c.from_residual.ensures.1 in
    record {
      writes = record {
        refused = λ h. record { result = p.1 ∙ ap Err (p.2 ∙ c.in_err-check.ensures.1 ∙ ap (λ n. record { buffer = Formula; needed = n }) long); buffer = refl };
        written = λ h. absurd (omega (arith, long, c.in_err-check.ensures.0));
      };
      laws = sealed_laws c.args.board.now;
    }

pub write-requires : goal.write-requires
write-requires c =
    let held = held_sealed c.args.board.now in
    omega (
      arith,
      needed (goal.at.write-requires c).After-number_count-needed,
      c.in_ok-check.ensures,
      ap length (formula_is c.of-ranking.result held c.of-ranking.ensures.sized c.of-ranking.ensures.ranks),
    )

pub returns : goal.returns
returns c =
    let held = held_sealed c.args.board.now in
    let long = needed (goal.at.returns c).After-number_count-needed in
    let all = writes_as c.write.ensures (formula_is c.of-ranking.result held c.of-ranking.ensures.sized c.of-ranking.ensures.ranks) in
    record {
      writes = record {
        refused = λ h. absurd (omega (arith, long, c.in_ok-check.ensures));
        written = λ h. record { result = ap Ok all.count; buffer = all.buffer };
      };
      laws = sealed_laws c.args.board.now;
    }
