use Rattle.std.proofs.Common.{◌≡◌, ◌+◌, ◌++◌, length, take, drop, Ok, Err, refl, sym, ap, ◌∙◌, ap₂, arith}
use Rattle.std.proofs.lemmas.List.{length-append, take_at}
use Rattle.std.proofs.lemmas.Result.{err_from_is_err_and}
use Rattle.std.specs.List.{flat_map}
use Rattle.board.specs.Views.{held_sealed}
use Rattle.plans.specs.Laws.{BoardLaws}
use Rattle.clauses.specs.Filling.{Writes}
use Rattle.clauses.specs.Formulas.{formula_of}
use Rattle.clauses.specs.Text.{head_of, line_of, printed, text_of}
use Rattle.clauses.specs.declared.buffer.Buffer.TheVariants.{Formula, Text}
use Rattle.clauses.proofs.Assembly.{assembled}
use Rattle.clauses.proofs.Filling.{room_behind, writes_as, writes_more}
use Rattle.clauses.proofs.Sealed.{formula_is, length_formula, length_text, sealed_laws, text_is}
use Rattle.clauses.proofs.printing.text.Goals as goal
use Rattle.clauses.proofs.printing.text.Goals.{After-number_count-count, After-lines_length, After-write}

laws : (c : After-number_count-count) → BoardLaws (held_sealed c.args.board.now)
laws c = sealed_laws c.args.board.now

count : (c : After-number_count-count) → c.number_count-count.result ≡ length (formula_of (held_sealed c.args.board.now))
count c = c.number_count-count.ensures ∙ length_formula (held_sealed c.args.board.now) (laws c) c.measure-measure.result c.measure-measure.ensures

pub returns-in_err-check : goal.returns-in_err-check
returns-in_err-check c =
    let long = count (goal.at.returns-in_err-check c).After-number_count-count in
    let p = err_from_is_err_and c.from_residual.result c.from_residual.ensures.1 in
    record {
      short_formula = λ h. record { result = p.1 ∙ ap Err (p.2 ∙ c.in_err-check.ensures.1 ∙ ap (λ n. record { buffer = Formula; needed = n }) long); numbers = refl; bytes = refl };
      short_text = λ l h. absurd (omega (arith, long, c.in_err-check.ensures.0));
      written = λ l h. absurd (omega (arith, long, c.in_err-check.ensures.0));
    }

needed : (c : After-lines_length) → c.head_length.result + c.lines_length.result ≡ length (text_of (held_sealed c.args.board.now))
needed c =
    let held = held_sealed c.args.board.now in
    let lines = c.lines_length.ensures.value ∙ ap (λ l. length (flat_map line_of l)) (assembled c.of-ranking.result held c.of-ranking.ensures.sized c.of-ranking.ensures.ranks) in
    ap₂ (λ a b. a + b) c.head_length.ensures.value lines ∙ sym (length_text held (sealed_laws c.args.board.now) c.measure-measure.result c.measure-measure.ensures)

pub returns-in_err-check-2 : goal.returns-in_err-check-2
returns-in_err-check-2 c =
    let first = count (goal.at.returns-in_err-check-2 c).After-number_count-count in
    let long = needed (goal.at.returns-in_err-check-2 c).After-lines_length in
    let p = err_from_is_err_and c.from_residual-in_err-check-2.result c.from_residual-in_err-check-2.ensures.1 in
    record {
      short_formula = λ h. absurd (omega (arith, first, c.in_ok-check.ensures));
      short_text = λ l h. record { result = p.1 ∙ ap Err (p.2 ∙ c.in_err-check-2.ensures.1 ∙ ap (λ n. record { buffer = Text; needed = n }) long); numbers = refl; bytes = refl };
      written = λ l h. absurd (omega (arith, long, c.in_err-check-2.ensures.0));
    }

pub write-requires : goal.write-requires
write-requires c =
    let held = held_sealed c.args.board.now in
    omega (
      arith,
      count (goal.at.write-requires c).After-number_count-count,
      c.in_ok-check.ensures,
      ap length (formula_is c.of-ranking.result held c.of-ranking.ensures.sized c.of-ranking.ensures.ranks),
    )

-- the formula stands in its buffer
formula : (c : After-write) → Writes (formula_of (held_sealed c.args.board.now)) c.args.formula.now c.write.new.out c.write.result
formula c = writes_as c.write.ensures (formula_is c.of-ranking.result (held_sealed c.args.board.now) c.of-ranking.ensures.sized c.of-ranking.ensures.ranks)

-- the text is the first line and then the numbers of that part of the buffer
whole : (c : After-write) → text_of (held_sealed c.args.board.now) ≡ head_of c.measure-measure.result.variables c.measure-measure.result.clauses ++ flat_map printed (take c.number_count-count.result c.write.new.out)
whole c =
    let held = held_sealed c.args.board.now in
    let long = c.number_count-count.ensures ∙ length_formula held (sealed_laws c.args.board.now) c.measure-measure.result c.measure-measure.ensures in
    let front = ap (take c.number_count-count.result) (formula c).buffer ∙ take_at (formula_of held) (drop (length (formula_of held)) c.args.formula.now) c.number_count-count.result (sym long) in
    text_is held (sealed_laws c.args.board.now) c.measure-measure.result c.measure-measure.ensures
    ∙ ap (λ l. head_of c.measure-measure.result.variables c.measure-measure.result.clauses ++ flat_map printed l) (sym front)

pub write_head-head-requires : goal.write_head-head-requires
write_head-head-requires c =
    omega (
      arith,
      needed (goal.at.write_head-head-requires c).After-lines_length,
      c.in_ok-check-2.ensures,
      simp length-append at (ap length (whole (goal.at.write_head-head-requires c).After-write)),
    )

pub write_lines-lines-requires : goal.write_lines-lines-requires
write_lines-lines-requires c =
    room_behind c.write_head-head.ensures _
    (omega (arith, needed (goal.at.write_lines-lines-requires c).After-lines_length, c.in_ok-check-2.ensures, ap length (whole (goal.at.write_lines-lines-requires c).After-write)))

pub returns : goal.returns
returns c =
    let numbers = formula (goal.at.returns c).After-write in
    let all = writes_as (writes_more c.write_head-head.ensures c.write_lines-lines.ensures) (sym (whole (goal.at.returns c).After-write)) in
    let first = count (goal.at.returns c).After-number_count-count in
    let second = needed (goal.at.returns c).After-lines_length in
    record {
      short_formula = λ h. absurd (omega (arith, first, c.in_ok-check.ensures));
      short_text = λ l h. absurd (omega (arith, second, c.in_ok-check-2.ensures));
      written = λ l h. record { result = ap Ok all.count; numbers = numbers.buffer; bytes = all.buffer };
    }
