use Rattle.std.proofs.Common.{◌≡◌, ℕ, ◌+◌, true, cond, [], ◌∷◌, ◌++◌}
use Rattle.std.specs.List.{All}
use Rattle.board.specs.Rows.{has_end}
use Rattle.clauses.specs.Ranks.{ranks_at}
use Rattle.clauses.proofs.Marks.{marks}
use Rattle.clauses.proofs.ranking.Ranking.enter.Given as goal

abbrev pub invariant-loop-chip : goal.invariant-loop-chip
invariant-loop-chip l =
    (l.self.sizes ≡ l.initial.self.sizes) × (l.self.nets ≡ l.initial.self.nets) × All (λ chip. has_end l.fn.net.ends chip ≡ true) l.chip-iterator
    × ((place : ℕ) → ranks_at l.self place ++ marks l.initial.self.nets place l.chip-iterator ≡ ranks_at l.initial.self place ++ cond (has_end l.fn.net.ends (place + 1)) (l.initial.self.nets ∷ []) [])
