use Rattle.std.proofs.Common.{sym, ◌∙◌}
use Rattle.odometer.proofs.Counts.{tried_zeros, tried_next, falls}
use Rattle.odometer.proofs.count.try_all.Goals as goal

pub loop-values-init : goal.loop-values-init
loop-values-init c = tried_zeros _ _ _ _ (c.fill.ensures.after (λ y e. e))

pub loop-values-smaller : goal.loop-values-smaller
loop-values-smaller c =
    falls _ _ _ c.loop-values.invariant (sym c.loop-values-test.ensures) c.advance.new.values c.advance.ensures.moves
    (sym c.advance.ensures.tells ∙ c.if-not-advance.false)

pub loop-values-preserved : goal.loop-values-preserved
loop-values-preserved c =
    tried_next _ _ _ c.loop-values.invariant (sym c.loop-values-test.ensures) c.advance.new.values c.advance.ensures.moves
    (sym c.advance.ensures.tells ∙ c.if-not-advance.false)
