use Rattle.std.proofs.Common.{arith}
use Rattle.netlist.proofs.Numbers.{over_first, over_more, over_all, over_none, no_digit_found}
use Rattle.netlist.proofs.reader.Reader.number.Goals as goal

pub returns-in_err-value : goal.returns-in_err-value
returns-in_err-value c = no_digit_found c.from_residual.ensures c.in_err-value.ensures

pub loop-digit-init : goal.loop-digit-init
loop-digit-init c = over_first c.in_ok-value.ensures

pub returns-then-value-eq0 : goal.returns-then-value-eq0
returns-then-value-eq0 c = over_none c.loop-digit.invariant c.in-Some.ensures c.then-value-eq0.either

pub loop-digit-preserved : goal.loop-digit-preserved
loop-digit-preserved c = over_more c.loop-digit.invariant c.in-Some.ensures (omega arith) (omega arith)

pub returns : goal.returns
returns c = over_all c.loop-digit.invariant c.in_default.ensures
