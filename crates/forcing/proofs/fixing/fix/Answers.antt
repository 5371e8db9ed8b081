use Rattle.std.proofs.Common.{sym, ◌∙◌}
use Rattle.forcing.proofs.Fixes.{formula_small, opposed_none, all_false_none, fixed_from}
use Rattle.forcing.proofs.fixing.fix.Goals as goal
use Rattle.forcing.proofs.fixing.fix.Goals.{else-assume-via-then-assume+else-force, else-assume-via-else-assume}

pub force-requires : goal.force-requires
force-requires c =
    formula_small c.args.question c.requires.formed c.requires.small

pub returns-else-assume : goal.returns-else-assume
returns-else-assume c =
    elim c.else-assume.branch [
      | else-assume-via-else-assume w ↦
          opposed_none c.args.question c.new-values.result c.assume.new.self c.new-values.ensures c.assume.ensures.leaves (sym c.assume.ensures.answers ∙ w.if-assume.false)
      | else-assume-via-then-assume+else-force w ↦
          all_false_none c.args.question c.new-values.result c.assume.new.self c.new-values.ensures c.assume.ensures.leaves w.force.new.values.slots w.if-force.ensures
    ]

pub returns-then-force : goal.returns-then-force
returns-then-force c =
    record {
      values = c.force.new.values.slots;
      fixed =
          fixed_from c.args.question c.new-values.result c.assume.new.self c.new-values.ensures c.assume.ensures.leaves c.force.new.values.slots
          c.requires.small c.requires.formed (sym c.assume.ensures.answers ∙ c.if-assume.true) c.if-force.ensures;
      exact = c.list_fixed.ensures;
    }
