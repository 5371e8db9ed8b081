use Rattle.std.proofs.Common.{[], refl, ap, ⊎_elim, arith, rules}
use Rattle.std.proofs.lemmas.List.{get_or_past}
use Rattle.std.proofs.lemmas.Bool.{cases_lt}
use Rattle.clauses.proofs.ranking.Ranking.empty.Goals as goal

pub returns-clause-empty : goal.returns-clause-empty
returns-clause-empty c =
    record {
      nets = refl;
      lists = λ place.
          ⊎_elim
          (λ l. let h = c.from_fn.ensures.items.at place (record { items = [] }) l in search rules)
          (λ l. ap (λ v. v.items) (get_or_past c.from_fn.result place (record { items = [] }) (omega (arith, c.from_fn.ensures.items.long))))
          (cases_lt place 32);
    }
