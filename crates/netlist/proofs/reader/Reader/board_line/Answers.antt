use Rattle.std.proofs.Common.{refl}
use Rattle.netlist.proofs.Parts.{no_form, a_form, board_form}
use Rattle.netlist.proofs.Sequences.{first_none, then_none, then_some, only_opening, only_field}
use Rattle.netlist.proofs.reader.Reader.board_line.Goals as goal

pub returns-in_err-fpics : goal.returns-in_err-fpics
returns-in_err-fpics c = no_form board_form (then_none only_opening c.in_ok-chips.ensures (first_none _ c.in_err-fpics.ensures)) c.from_residual-in_err-fpics.ensures

pub returns-in_err-pins : goal.returns-in_err-pins
returns-in_err-pins c =
    no_form board_form (then_none only_opening c.in_ok-chips.ensures (
    then_none only_field c.in_ok-fpics.ensures (first_none _ c.in_err-pins.ensures))) c.from_residual-in_err-pins.ensures

pub returns-in_err-end_of_line : goal.returns-in_err-end_of_line
returns-in_err-end_of_line c =
    no_form board_form (then_none only_opening c.in_ok-chips.ensures (
    then_none only_field c.in_ok-fpics.ensures (
    then_none only_field c.in_ok-pins.ensures c.in_err-end_of_line.ensures.finds))) c.from_residual-in_err-end_of_line.ensures

pub returns : goal.returns
returns c =
    a_form board_form (c.in_ok-chips.chips, (c.in_ok-fpics.fpics, (c.in_ok-pins.pins, tt))) refl (then_some c.in_ok-chips.ensures (
    then_some c.in_ok-fpics.ensures (then_some c.in_ok-pins.ensures c.in_ok-end_of_line.ensures.finds)))
