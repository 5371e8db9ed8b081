use Rattle.std.proofs.Common.{◌≡◌, ◌+◌, ◌-◌, ◌∷◌, bit_and, sym, ap, ◌∙◌, arith, rules}
use lib.Count.{count_trailing_zeros}
use Rattle.board.specs.Rows.{chips_of}
use Rattle.board.proofs.Walk.{chips_of-zero, chips_of_more}
use Rattle.board.proofs.chips.ChipsIterator.next.Goals as goal

pub returns-then-rest-eq0-clause-steps : goal.returns-then-rest-eq0-clause-steps
returns-then-rest-eq0-clause-steps c =
    let none = sym c.self.view_is ∙ ap chips_of c.if-rest-eq0.true ∙ chips_of-zero in (none, none)

splits : (c : goal.After-self-1) → c.args.self.now ≡ (count_trailing_zeros 32 c.self.inside.rest + 1) ∷ chips_of (bit_and c.self.inside.rest (c.self.inside.rest - 1))
splits c = sym c.self.view_is ∙ chips_of_more c.self.inside.rest (omega arith) (omega arith)

pub returns-clause-steps : goal.returns-clause-steps
returns-clause-steps c = splits c

pub returns-clause-goes : goal.returns-clause-goes
returns-clause-goes c = let first = splits c in search rules
