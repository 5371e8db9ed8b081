-- What is left of a search falls.
use Rattle.std.proofs.Common.{◌≡◌, ℕ, zero, suc, ◌+◌, ◌*◌, ◌<◌, ◌≤◌, List, ◌∷◌, ap, add-one, arith}
use Rattle.search.specs.Suiting.{nodes, untried}
use Rattle.search.specs.declared.state.Entry.{Entry}
use Rattle.search.specs.declared.state.Entry.TheVariants.{Implied, Choice}

nodes_more : (n : ℕ) → nodes (n + 1) ≡ 2 * nodes n + 1
unfolding nodes
nodes_more n = ap nodes (add-one n)

pub nodes_some : (n : ℕ) → 1 ≤ nodes n
unfolding nodes
nodes_some zero = omega arith
nodes_some (suc n) = omega arith

-- an entry more leaves less
pub push_less : (free : ℕ) (e : Entry) (older : List Entry) → nodes free + untried free (e ∷ older) < nodes (free + 1) + untried (free + 1) older
push_less free (Implied z) older = omega (arith, nodes_more free, nodes_some free)
push_less free (Choice z) older = omega (arith, nodes_more free, nodes_some free)
