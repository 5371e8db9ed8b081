use Rattle.std.proofs.Common.{cond, [], ◌∷◌, ◌++◌, length, sym, ap, ◌∙◌, arith, w16}
use Rattle.std.proofs.lemmas.Int.{to_z-of_z}
use Rattle.std.specs.Fmt.{signed_decimal}
use Rattle.sat.specs.Formula.{is_zero}
use Rattle.clauses.specs.Filling.{Writes}
use Rattle.clauses.proofs.Filling.{length-written, writes_as, writes_push}
use Rattle.clauses.proofs.Spelling.{length-printed, printed_is}
use Rattle.clauses.proofs.decimals.write_number.Goals as goal
use Rattle.clauses.proofs.decimals.write_number.Goals.{After-separator}

pub write_decimal-digits-requires : goal.write_decimal-digits-requires
write_decimal-digits-requires c = omega (arith, c.requires, length-printed c.args.number, ap (λ z. length (signed_decimal z)) (to_z-of_z w16 c.args.number c.ranges.number))

digits : (c : After-separator) → Writes (signed_decimal c.args.number) c.args.out.now c.write_decimal-digits.new.out c.write_decimal-digits.result
digits c = writes_as c.write_decimal-digits.ensures (ap signed_decimal (to_z-of_z w16 c.args.number c.ranges.number))

pub bounds-out-digits : goal.bounds-out-digits
bounds-out-digits c =
    let w = digits (goal.at.bounds-out-digits c).After-separator in
    let long = length-printed c.args.number in
    omega (arith, w.count, length-written w (omega arith))

pub returns : goal.returns
returns c =
    let number = c.args.number in
    writes_as (writes_push (digits (goal.at.returns c).After-separator) c.separator.result (omega (arith, c.requires, length-printed number)))
    (ap (λ b. signed_decimal number ++ (b ∷ [])) (c.separator.ensures ∙ ap (λ z. cond (is_zero z) 10 32) (to_z-of_z w16 number c.ranges.number)) ∙ sym (printed_is number))
