use Rattle.std.proofs.Common.{None}
use Rattle.netlist.proofs.Listed.{looked, looked_none, no_chip, chip_refused, chip_more, chips_end}
use Rattle.netlist.proofs.reader.Reader.chips.Goals as goal

pub returns-in_err-field : goal.returns-in_err-field
returns-in_err-field c =
    (None, no_chip c.loop-self.invariant (looked_none _ c.end_of_line.ensures c.loop-self-test.ensures) c.in_err-field.ensures, c.from_residual.ensures)

pub returns-in_err-ends : goal.returns-in_err-ends
returns-in_err-ends c = (
  None,
  chip_refused c.loop-self.invariant (looked_none _ c.end_of_line.ensures c.loop-self-test.ensures) c.in_ok-field.ensures c.in_err-ends.ensures,
  c.from_residual-in_err-ends.ensures,
)

pub loop-self-preserved : goal.loop-self-preserved
loop-self-preserved c = chip_more c.loop-self.invariant (looked_none _ c.end_of_line.ensures c.loop-self-test.ensures) c.in_ok-field.ensures c.in_ok-ends.ensures

pub returns : goal.returns
returns c = chips_end c.loop-self.invariant (looked _ c.end_of_line.ensures c.loop-self-test.ensures) c.then_some.ensures
