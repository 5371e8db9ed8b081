-- A clause read literal by literal: what is known of it at each step, and what comes of that in the end.
use Rattle.std.proofs.Common.{◌≡◌, ℕ, ◌+◌, ◌<◌, true, false, cond, ◌&&◌, ◌||◌, List, [], ◌∷◌, length, get_or, drop, ℤ, pos, sym, refl, ap, ◌∙◌}
use Rattle.std.proofs.lemmas.List.{at_drop_more}
use Rattle.std.specs.Ordering.{int_eq}
use Rattle.sat.specs.Formula.{every}
use Rattle.scan.specs.Values.{by_value, reads}
use Rattle.scan.specs.Clauses.{is_open, is_held, held, open_in, by_open, judged, with_open}
use Rattle.scan.specs.declared.value.Value.{Value}
use Rattle.scan.specs.declared.value.Value.TheVariants.{Open, True, False}
use Rattle.scan.specs.declared.clause.Standing.{Standing}
use Rattle.scan.specs.declared.clause.Standing.TheVariants.{Undecided, Satisfied, AllFalse, Forcing}

-- what a clause is, from what its literals so far made it and from the rest of them
abbrev pub going : List Value → Standing → List ℤ → Standing
going values s [] = s
going values s (z ∷ zs) = by_value (reads values z) (going values (with_open s z) zs) Satisfied (going values s zs)

-- the standing of a clause without a true literal, from what it was and from its further open literals
abbrev onward : Standing → List ℤ → Standing
onward Undecided zs = Undecided
onward Satisfied zs = Satisfied
onward AllFalse zs = by_open zs
onward (Forcing first) zs = cond (every (int_eq first) zs) (Forcing first) Undecided

onward_more : (s : Standing) (z : ℤ) (zs : List ℤ) → onward (with_open s z) zs ≡ onward s (z ∷ zs)
onward_more Undecided z zs = refl
onward_more Satisfied z zs = refl
onward_more AllFalse z zs = refl
onward_more (Forcing first) z zs = elim (int_eq first z) as (λ b. onward (cond b (Forcing first) Undecided) zs ≡ cond (b && every (int_eq first) zs) (Forcing first) Undecided) [ true ↦ refl | false ↦ refl ]

going_is : (values : List Value) (s : Standing) (clause : List ℤ) → going values s clause ≡ cond (held values clause) Satisfied (onward s (open_in values clause))
going_is values Undecided [] = refl
going_is values Satisfied [] = refl
going_is values AllFalse [] = refl
going_is values (Forcing first) [] = refl
going_is values s (z ∷ zs) =
    elim (reads values z) as (λ v. by_value v (going values (with_open s z) zs) Satisfied (going values s zs)
    ≡ cond (is_held v || held values zs) Satisfied (onward s (cond (is_open v) (z ∷ open_in values zs) (open_in values zs)))) [
      | Open ↦ going_is values (with_open s z) zs ∙ ap (λ t. cond (held values zs) Satisfied t) (onward_more s z (open_in values zs))
      | True ↦ refl
      | False ↦ going_is values s zs
    ]

pub going_judged : (values : List Value) (clause : List ℤ) → going values AllFalse clause ≡ judged values clause
going_judged values clause = going_is values AllFalse clause

-- one literal more, by what it is
module _ (values : List Value) (s : Standing) (clause : List ℤ) (i : ℕ) (h : i < length clause) where
  going_more : (v : Value) → reads values (get_or clause i (pos 0)) ≡ v →
      going values s (drop i clause) ≡ by_value v (going values (with_open s (get_or clause i (pos 0))) (drop (i + 1) clause)) Satisfied (going values s (drop (i + 1) clause))
  going_more v e =
      at_drop_more (going values s) clause i (pos 0) h
      ∙ ap (λ w. by_value w (going values (with_open s (get_or clause i (pos 0))) (drop (i + 1) clause)) Satisfied (going values s (drop (i + 1) clause))) e

  pub going_false : reads values (get_or clause i (pos 0)) ≡ False → going values s (drop (i + 1) clause) ≡ going values s (drop i clause)
  going_false e = sym (going_more False e)

  pub going_open : reads values (get_or clause i (pos 0)) ≡ Open → going values (with_open s (get_or clause i (pos 0))) (drop (i + 1) clause) ≡ going values s (drop i clause)
  going_open e = sym (going_more Open e)
