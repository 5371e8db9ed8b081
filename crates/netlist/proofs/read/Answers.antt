use Rattle.std.proofs.Common.{Err, sym, refl, ap, ◌∙◌, arith}
use Rattle.std.proofs.lemmas.Bool.{false≢true}
use Rattle.std.proofs.lemmas.Result.{err_from_is_err_and}
use Rattle.netlist.proofs.Progress.{none_read, one_more, going_on, all_read, fault_read}
use Rattle.netlist.proofs.Sets.{has_among}
use Rattle.netlist.proofs.Unique.{reads_alone}
use Rattle.netlist.proofs.read.Goals as goal

pub returns-then-text-gt-LONGEST-clause-ends : goal.returns-then-text-gt-LONGEST-clause-ends
returns-then-text-gt-LONGEST-clause-ends c = has_among

pub loop-is_left-init : goal.loop-is_left-init
loop-is_left-init c =
    record { sofar = none_read c.new-reader.ensures.rest c.new-reader.ensures.line c.blank-fresh.ensures; goes = λ _ _. refl; ends = λ e. absurd (false≢true (sym e)) }

pub returns-in_err-act : goal.returns-in_err-act
returns-in_err-act c =
    let p = err_from_is_err_and c.from_residual.result c.from_residual.ensures.1 in
    let going = c.loop-is_left.invariant in
    let reads = fault_read _ (omega arith) _ _ going.sofar (going.goes c.loop-is_left-test.true) _ (p.1 ∙ ap Err p.2) c.in_err-act.ensures in
    record { reads = reads; alone = reads_alone _ _ _ _ reads; ends = has_among }

pub loop-is_left-preserved : goal.loop-is_left-preserved
loop-is_left-preserved c = going_on c.is_empty-is_left.result c.is_empty-is_left.ensures (one_more c.loop-is_left.invariant.sofar c.in_ok-act.ensures)

pub returns : goal.returns
returns c =
    let going = c.loop-is_left.invariant in
    let end = going.ends c.loop-is_left-test.false in
    let reads = all_read _ (omega arith) (record { sofar = going.sofar; some = end.1 }) end.0 in
    record { reads = reads; alone = reads_alone _ _ _ _ reads; ends = has_among }
