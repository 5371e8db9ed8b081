use Rattle.std.proofs.Common.{ap}
use Rattle.board.specs.declared.edit.Edit.TheVariants.{Add}
use Rattle.netlist.proofs.Parts.{no_form, a_form, net_form, told_none, told_some}
use Rattle.netlist.proofs.Sequences.{first_none, then_none, then_some, only_opening}
use Rattle.netlist.proofs.reader.Reader.net_line.Goals as goal

pub returns-in_err-net : goal.returns-in_err-net
returns-in_err-net c = no_form net_form (first_none _ c.in_err-net.ensures) c.from_residual.ensures

pub returns-in_err-ends : goal.returns-in_err-ends
returns-in_err-ends c = no_form net_form (then_none only_opening c.in_ok-net.ensures (told_none c.in_err-ends.ensures)) c.from_residual-in_err-ends.ensures

pub returns : goal.returns
returns c =
    let chips = told_some c.in_ok-ends.ensures in
    a_form net_form (c.in_ok-net.net, chips.0) (ap (λ n. Add c.in_ok-net.net n) chips.2) (then_some c.in_ok-net.ensures chips.1)
