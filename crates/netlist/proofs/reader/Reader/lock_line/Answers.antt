use Rattle.std.proofs.Common.{refl}
use Rattle.netlist.proofs.Parts.{no_form, a_form, lock_form}
use Rattle.netlist.proofs.Sequences.{first_none, then_none, then_some, only_byte, only_opening, only_one_of}
use Rattle.netlist.proofs.reader.Reader.lock_line.Goals as goal

pub returns-in_err-space : goal.returns-in_err-space
returns-in_err-space c = no_form lock_form (then_none only_opening c.in_ok-net.ensures (first_none _ c.in_err-space.ensures.finds)) c.from_residual-in_err-space.ensures

pub returns-in_err-letter : goal.returns-in_err-letter
returns-in_err-letter c =
    no_form lock_form (then_none only_opening c.in_ok-net.ensures (
    then_none only_byte c.in_ok-space.ensures.finds (first_none _ c.in_err-letter.ensures.finds))) c.from_residual-in_err-letter.ensures

pub returns-in_err-end_of_line : goal.returns-in_err-end_of_line
returns-in_err-end_of_line c =
    no_form lock_form (then_none only_opening c.in_ok-net.ensures (
    then_none only_byte c.in_ok-space.ensures.finds (
    then_none (only_one_of _ _) c.in_ok-letter.ensures.finds c.in_err-end_of_line.ensures.finds))) c.from_residual-in_err-end_of_line.ensures

pub returns : goal.returns
returns c =
    a_form lock_form (c.in_ok-net.net, (tt, (c.in_ok-letter.letter, tt))) refl (then_some c.in_ok-net.ensures (
    then_some c.in_ok-space.ensures.finds (then_some c.in_ok-letter.ensures.finds c.in_ok-end_of_line.ensures.finds)))
