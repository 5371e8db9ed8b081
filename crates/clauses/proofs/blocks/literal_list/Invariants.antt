use Rattle.std.proofs.Common.{◌≡◌}
use Rattle.clauses.proofs.blocks.literal_list.Given as goal

abbrev pub invariant-loop-literal : goal.invariant-loop-literal
invariant-loop-literal g l = l.list.items ≡ l.yielded
