-- What the lowest open variable is.
use Rattle.std.proofs.Common.{◌≡◌, ℕ, zero, suc, ◌+◌, ◌-◌, ◌<◌, ◌≤◌, cond, List, get_or, find, Some, None, Option, sym, refl, ap, ◌∙◌, subst, ⊎_elim, arith}
use Rattle.std.specs.List.{range_with_len}
use Rattle.std.proofs.lemmas.Bool.{cases_lt}
use Rattle.scan.specs.Values.{Closed}
use Rattle.scan.specs.Clauses.{is_open}
use Rattle.scan.specs.declared.value.Value.{Value}
use Rattle.scan.specs.declared.value.Value.TheVariants.{Open, True, False}
use Rattle.search.specs.States.{lowest_open, Lowest}

module _ (values : List Value) where
  closed_more : (n : ℕ) → 0 < n → Closed (n - 1) values → (get_or values n Open ≡ Open → ⊥) → Closed (n + 1 - 1) values
  closed_more n some c h k l e =
      ⊎_elim (λ lt. c k lt e) (λ ge. let q : n ≡ suc k = omega arith in h (ap (λ i. get_or values i Open) q ∙ e)) (cases_lt k (n - 1))

  from_by : (n left v : ℕ) → 0 < n → n + left ≡ v → Closed (n - 1) values → (w : Value) → get_or values n Open ≡ w → (Closed (n + 1 - 1) values → Lowest v values (find (λ k. is_open (get_or values k Open)) (range_with_len (n + 1) left))) →
      Lowest v values (cond (is_open w) (Some n) (find (λ k. is_open (get_or values k Open)) (range_with_len (n + 1) left)))
  from_by n left v some e c Open o h = (some, omega arith, o, c)
  from_by n left v some e c True o h = h (closed_more n some c (λ q. cc))
  from_by n left v some e c False o h = h (closed_more n some c (λ q. cc))

  -- the variables from n on, with those below it closed
  from_is : (n left v : ℕ) → 0 < n → n + left ≡ v + 1 → Closed (n - 1) values → Lowest v values (find (λ k. is_open (get_or values k Open)) (range_with_len n left))
  from_is n zero v some e c = subst (λ (k : ℕ). Closed k values) (omega arith) c
  from_is n (suc left) v some e c = from_by n left v some (omega arith) c (get_or values n Open) refl (from_is (n + 1) left v (omega arith) (omega arith))

pub lowest_is : (v : ℕ) (values : List Value) (r : Option ℕ) → r ≡ lowest_open v values → Lowest v values r
lowest_is v values r e = subst (Lowest v values) (sym e) (from_is values 1 v v (omega arith) (omega arith) (λ n h _. omega arith))

-- it is the only one
module _ (v : ℕ) (values : List Value) where
  shut : (n k : ℕ) → Closed n values → 0 < k → k ≤ n → get_or values k Open ≡ Open → ⊥
  shut n k c some le e = let q : k ≡ suc (k - 1) = omega arith in c (k - 1) (omega arith) (sym (ap (λ i. get_or values i Open) q) ∙ e)

  alone : (r q : Option ℕ) → Lowest v values r → Lowest v values q → r ≡ q
  alone None None h k = refl
  alone None (Some n) h k = absurd (shut v n h k.0 k.1 k.2)
  alone (Some m) None h k = absurd (shut v m k h.0 h.1 h.2)
  alone (Some m) (Some n) h k = let a : m < n → ⊥ = λ lt. shut (n - 1) m k.3 h.0 (omega arith) h.2 in let b : n < m → ⊥ = λ lt. shut (m - 1) n h.3 k.0 (omega arith) k.2 in ap Some (grind arith)

  pub lowest_only : (r : Option ℕ) → Lowest v values r → r ≡ lowest_open v values
  lowest_only r h = alone r (lowest_open v values) h (lowest_is v values (lowest_open v values) refl)
