use Rattle.std.proofs.Common.{Some, None, rules}
use Rattle.search.proofs.Lowest.{lowest_only}
use Rattle.search.proofs.state.State.lowest_open.Goals as goal

pub returns-then-eq-clause-answers : goal.returns-then-eq-clause-answers
returns-then-eq-clause-answers c =
    lowest_only c.args.self.now.question.variables c.args.self.now.values.slots (Some c.loop-n.n) (search rules)

pub returns-else-eq-clause-answers : goal.returns-else-eq-clause-answers
returns-else-eq-clause-answers c = lowest_only c.args.self.now.question.variables c.args.self.now.values.slots None (search rules)
