use Rattle.std.proofs.Common.{◌++◌, codes, decimal, sym, arith}
use Rattle.std.proofs.lemmas.List.{length-append}
use Rattle.clauses.specs.Text.{line_feed}
use Rattle.clauses.proofs.Filling.{room_behind, writes_as, writes_more}
use Rattle.clauses.proofs.Spelling.{head_fields, length_head}
use Rattle.clauses.proofs.printing.write_head.Goals as goal

pub write_field-count-requires : goal.write_field-count-requires
write_field-count-requires c = omega (arith, c.requires, length_head c.args.measure.variables c.args.measure.clauses)

pub write_field-count-requires-2 : goal.write_field-count-requires-2
write_field-count-requires-2 c =
    room_behind c.write_field-count.ensures (codes " " ++ decimal c.args.measure.clauses)
    (simp length-append (omega (arith, c.requires, length_head c.args.measure.variables c.args.measure.clauses)))

pub write_all-requires : goal.write_all-requires
write_all-requires c =
    room_behind (writes_more c.write_field-count.ensures c.write_field-count-2.ensures) line_feed
    (simp length-append (omega (arith, c.requires, length_head c.args.measure.variables c.args.measure.clauses)))

pub returns : goal.returns
returns c =
    writes_as (writes_more (writes_more c.write_field-count.ensures c.write_field-count-2.ensures) c.write_all.ensures)
    (sym (head_fields c.args.measure.variables c.args.measure.clauses))
