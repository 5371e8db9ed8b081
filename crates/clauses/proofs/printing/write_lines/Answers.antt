use Rattle.std.proofs.Common.{◌++◌, length, get_or, take, pos, sym, ap, ◌∙◌, arith, w16, SFits, rules}
use Rattle.std.proofs.lemmas.List.{length-append, take_all}
use Rattle.std.proofs.lemmas.Int.{to_z-of_z}
use Rattle.std.proofs.lemmas.List.Folds.{length-flat_map-take}
use Rattle.std.specs.List.{flat_map}
use Rattle.clauses.specs.Text.{printed}
use Rattle.clauses.proofs.Joins.{joined_take_more}
use Rattle.clauses.proofs.Filling.{room_behind, writes_as, writes_more}
use Rattle.clauses.proofs.printing.write_lines.Goals as goal

pub write_number-count-requires : goal.write_number-count-requires
write_number-count-requires c =
    let numbers = c.args.numbers.now in
    let i = c.loop-number.number-index in
    let fits : SFits w16 (get_or numbers i (pos 0)) = search rules in
    room_behind c.loop-number.invariant _
    (simp length-append (omega (arith, c.requires, ap (λ z. length (printed z)) (to_z-of_z w16 (get_or numbers i (pos 0)) fits), length-flat_map-take printed numbers i (pos 0) c.loop-number-test.true)))

pub loop-number-preserved : goal.loop-number-preserved
loop-number-preserved c =
    let numbers = c.args.numbers.now in
    let i = c.loop-number.number-index in
    let fits : SFits w16 (get_or numbers i (pos 0)) = search rules in
    writes_as (writes_more c.loop-number.invariant c.write_number-count.ensures)
    (ap (λ z. flat_map printed (take i numbers) ++ printed z) (to_z-of_z w16 (get_or numbers i (pos 0)) fits) ∙ sym (joined_take_more printed numbers i (pos 0) c.loop-number-test.true))

pub returns : goal.returns
returns c = writes_as c.loop-number.invariant (ap (flat_map printed) (take_all c.loop-number.number-index c.args.numbers.now c.loop-number-test.false))
