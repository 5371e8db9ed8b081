-- Questions on a board's formula with assumed literals that each say by which FPIC a rank goes:
-- the valuations that answer are those of the plans that fit and have these letters.
use Rattle.std.proofs.Common.{◌≡◌, ℕ, ◌*◌, ◌<◌, true, List, [], ◌∷◌, map, length, get_or, ℤ, Decides, sym, refl, ap, subst, arith}
use Rattle.std.proofs.lemmas.Bool.{and_from}
use Rattle.std.proofs.lemmas.Bool.Decides.{Decides-at}
use Rattle.std.specs.List.{AllByRecursion}
use Rattle.sat.specs.Formula.{encode, is_true, literals, within}
use Rattle.sat.specs.Question.{Models, well_formed}
use Rattle.board.specs.Held.{Held}
use Rattle.board.specs.Laws.{Lawful}
use Rattle.plans.specs.Clauses.{clauses, goes, valuation_of}
use Rattle.plans.specs.Nets.{nets_of}
use Rattle.plans.specs.Plans.{Fits, Row}
use Rattle.plans.proofs.Blocks.{goes-true, valuation_letters, valuation_by}
use Rattle.plans.proofs.Faithful.{length_fits, models_plan, plan_models}
use Rattle.plans.proofs.Letters.{letters}
use Rattle.plans.proofs.WellFormed.{goes_literal, goes-within, question_well_formed}

-- in the valuation of a plan that fits, the literal of rank r and FPIC t is true where the plan's letter of that rank is t
pub plan_goes : (held : Held) (plan : List Row) → Fits held plan → (r t : ℕ) → r < length (nets_of held.rows) → t < held.fpics →
    Decides (is_true (valuation_of held.fpics plan) (goes held.fpics r t)) (get_or (letters plan) r 0 ≡ t)
plan_goes held plan f r t in' below =
    let k = held.fpics in
    let long : length (letters plan) ≡ length (nets_of held.rows) = length_fits held plan f in
    Decides-at (is_true (valuation_of k plan) (goes k r t)) (is_true (valuation_by k (letters plan)) (goes k r t)) (ap (λ v. is_true v (goes k r t)) (valuation_letters k plan))
    (goes-true k (letters plan) r t (omega arith) below)

-- a pick has a rank and a letter
module _ {X : Type 0} (rank letter : X → ℕ) where
  -- the literals that say so, all ranks and letters on the board, and a plan that keeps the picks
  abbrev pub picked : ℕ → List X → List ℤ
  picked k picks = map (λ x. goes k (rank x) (letter x)) picks

  abbrev pub OnBoard : Held → List X → Type 0
  OnBoard held picks = AllByRecursion (λ x. (rank x < length (nets_of held.rows)) × (letter x < held.fpics)) picks

  abbrev pub Keeps : List Row → List X → Type 0
  Keeps plan picks = AllByRecursion (λ x. get_or (letters plan) (rank x) 0 ≡ letter x) picks

  pub true_from_keeps : (held : Held) (plan : List Row) → Fits held plan → (picks : List X) → OnBoard held picks → Keeps plan picks →
      AllByRecursion (λ z. is_true (valuation_of held.fpics plan) z ≡ true) (picked held.fpics picks)
  true_from_keeps held plan f [] on keeps = tt
  true_from_keeps held plan f (x ∷ picks) on keeps =
      ((plan_goes held plan f (rank x) (letter x) on.0.0 on.0.1).1 keeps.0, true_from_keeps held plan f picks on.1 keeps.1)

  pub keeps_from_true : (held : Held) (plan : List Row) → Fits held plan → (picks : List X) → OnBoard held picks →
      AllByRecursion (λ z. is_true (valuation_of held.fpics plan) z ≡ true) (picked held.fpics picks) → Keeps plan picks
  keeps_from_true held plan f [] on kept = tt
  keeps_from_true held plan f (x ∷ picks) on kept =
      ((plan_goes held plan f (rank x) (letter x) on.0.0 on.0.1).0 kept.0, keeps_from_true held plan f picks on.1 kept.1)

  -- a plan that keeps the picks answers the question, and what answers it is such a plan
  pub picked_models : (held : Held) (plan : List Row) (picks : List X) → OnBoard held picks → Fits held plan → Keeps plan picks →
      Models (length (nets_of held.rows) * held.fpics) (encode (clauses held)) (picked held.fpics picks) (valuation_of held.fpics plan)
  picked_models held plan picks on f keeps = plan_models held plan (picked held.fpics picks) f (true_from_keeps held plan f picks on keeps)

  pub models_picked : (held : Held) → Lawful held → (picks : List X) → OnBoard held picks → (values : List ℕ) →
      Models (length (nets_of held.rows) * held.fpics) (encode (clauses held)) (picked held.fpics picks) values →
      (plan : List Row) × Fits held plan × Keeps plan picks × (valuation_of held.fpics plan ≡ values)
  models_picked held lawful picks on values m =
      let found = models_plan held lawful (picked held.fpics picks) values m in
      let kept = subst (λ v. AllByRecursion (λ z. is_true v z ≡ true) (picked held.fpics picks)) (sym found.2) m.kept in
      (found.0, found.1, keeps_from_true held found.0 found.1 picks on kept, found.2)

  -- and the question is well formed
  picked_within : (held : Held) (picks : List X) → OnBoard held picks → within (length (nets_of held.rows) * held.fpics) (picked held.fpics picks) ≡ true
  picked_within held [] on = refl
  picked_within held (x ∷ picks) on =
      and_from _ _ (goes-within (length (nets_of held.rows)) held.fpics (rank x) (letter x) on.0.0 on.0.1) (picked_within held picks on.1)

  picked_literals : (k : ℕ) (picks : List X) → literals (picked k picks) ≡ true
  picked_literals k [] = refl
  picked_literals k (x ∷ picks) = and_from _ _ (goes_literal k (rank x) (letter x)) (picked_literals k picks)

  pub picked_well_formed : (held : Held) (picks : List X) → OnBoard held picks →
      well_formed (length (nets_of held.rows) * held.fpics) (encode (clauses held)) (picked held.fpics picks) ≡ true
  picked_well_formed held picks on = question_well_formed held (picked held.fpics picks) (picked_within held picks on) (picked_literals held.fpics picks)
