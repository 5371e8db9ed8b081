-- Valuations that agree with a partial one: what they make of its literals and clauses, and how they follow its changes.
use Rattle.std.proofs.Common.{◌≡◌, ℕ, zero, suc, true, false, ◌⊎◌, List, [], ◌∷◌, length, get_or, set, replicate, ℤ, pos, negsuc, sym, refl, ap, ◌∙◌, subst, ⊎_elim, arith}
use Rattle.std.specs.List.{AllByRecursion}
use Rattle.std.proofs.lemmas.List.{get_or-set_same, get_or-set_other, set_past}
use Rattle.std.proofs.lemmas.Bool.{eq-eqb, ne_eqb, eqb-true, cases_eq, cases_lt, or_cases, or_from, both_ways}
use Rattle.sat.specs.Formula.{variable, is_true, satisfied}
use Rattle.scan.specs.Values.{opposite, truth, reads, Stands, Agrees}
use Rattle.scan.specs.Clauses.{judged, Means}
use Rattle.scan.specs.declared.value.Value.{Value}
use Rattle.scan.specs.declared.value.Value.TheVariants.{Open, True, False}
use Rattle.scan.specs.declared.clause.Standing.TheVariants.{AllFalse, Forcing}
use Rattle.scan.proofs.Meaning.{judged_means}

opposite-true : (v : Value) → opposite v ≡ True → v ≡ False
opposite-true Open e = cc
opposite-true True e = cc
opposite-true False e = refl

opposite-false : (v : Value) → opposite v ≡ False → v ≡ True
opposite-false Open e = cc
opposite-false True e = refl
opposite-false False e = cc

module _ (values : List Value) (m : List ℕ) (a : Agrees values m) where
  byte_is : (n : ℕ) (v : Value) → get_or values (suc n) Open ≡ v → Stands v (get_or m n 0)
  byte_is n v e = subst (λ (w : Value). Stands w (get_or m n 0)) e (a n)

  -- a literal that is true here is true there
  pub agrees_true : (z : ℤ) → reads values z ≡ True → is_true m z ≡ true
  agrees_true (pos zero) e = cc
  agrees_true (pos (suc n)) e = eq-eqb (get_or m n 0) 1 (byte_is n True e)
  agrees_true (negsuc n) e = eq-eqb (get_or m n 0) 0 (byte_is n False (opposite-true (get_or values (suc n) Open) e))

  -- a literal that is false here is false there
  pub agrees_false : (z : ℤ) → reads values z ≡ False → is_true m z ≡ false
  agrees_false (pos zero) e = cc
  agrees_false (pos (suc n)) e = let b : get_or m n 0 ≡ 0 = byte_is n False e in ne_eqb (get_or m n 0) 1 (λ h. omega arith)
  agrees_false (negsuc n) e = let b : get_or m n 0 ≡ 1 = byte_is n True (opposite-false (get_or values (suc n) Open) e) in ne_eqb (get_or m n 0) 0 (λ h. omega arith)

  all_false_fails : (clause : List ℤ) → AllByRecursion (λ z. reads values z ≡ False) clause → satisfied m clause ≡ false
  all_false_fails [] h = refl
  all_false_fails (z ∷ clause) h = or_from (is_true m z) (satisfied m clause) (agrees_false z h.0) (all_false_fails clause h.1)

  -- a clause that is all false fails in every valuation that agrees
  pub conflict_fails : (clause : List ℤ) → judged values clause ≡ AllFalse → satisfied m clause ≡ false
  conflict_fails clause e = all_false_fails clause (subst (Means values clause) e (judged_means values clause))

  last_holds : (last : ℤ) (clause : List ℤ) → AllByRecursion (λ z. (z ≡ last) ⊎ (reads values z ≡ False)) clause → satisfied m clause ≡ true → is_true m last ≡ true
  last_holds last [] h s = cc
  last_holds last (z ∷ clause) h s =
      ⊎_elim
      (λ t. ⊎_elim (λ e. ap (is_true m) (sym e) ∙ t) (λ f. absurd (both_ways (is_true m z) (agrees_false z f) t)) h.0)
      (λ r. last_holds last clause h.1 r)
      (or_cases (is_true m z) (satisfied m clause) s)

  -- the last open literal holds in every valuation that agrees and satisfies the clause
  pub forced_holds : (clause : List ℤ) (last : ℤ) → judged values clause ≡ Forcing last → satisfied m clause ≡ true → is_true m last ≡ true
  forced_holds clause last e s = let k : Means values clause (Forcing last) = subst (Means values clause) e (judged_means values clause) in last_holds last clause k.2 s

-- a value at one place
stands_set : (values : List Value) (m : List ℕ) (k : ℕ) (v : Value) (n : ℕ) → (suc n ≡ k → Stands v (get_or m n 0)) → Stands (get_or values (suc n) Open) (get_or m n 0) → Stands (get_or (set values k v) (suc n) Open) (get_or m n 0)
stands_set values m k v n h a =
    ⊎_elim
    (λ e. ⊎_elim
    (λ l. subst (λ (w : Value). Stands w (get_or m n 0)) (sym (ap (λ i. get_or (set values i v) (suc n) Open) (sym e) ∙ get_or-set_same values (suc n) v Open (omega arith))) (h e))
    (λ l. subst (λ (w : List Value). Stands (get_or w (suc n) Open) (get_or m n 0)) (sym (set_past values k v l)) a)
    (cases_lt k (length values)))
    (λ ne. subst (λ (w : Value). Stands w (get_or m n 0)) (sym (get_or-set_other values k (suc n) v Open ne)) a)
    (cases_eq (suc n) k)

true_stands : (m : List ℕ) (z : ℤ) → is_true m z ≡ true → (n : ℕ) → suc n ≡ variable z → Stands (truth z) (get_or m n 0)
true_stands m (pos zero) t n e = cc
true_stands m (pos (suc k)) t n e = let g : n ≡ k = omega arith in rw g (eqb-true (get_or m k 0) 1 t)
true_stands m (negsuc k) t n e = let g : n ≡ k = omega arith in rw g (eqb-true (get_or m k 0) 0 t)

open_there : (size n : ℕ) → get_or (replicate size Open) n Open ≡ Open
open_there zero n = refl
open_there (suc size) zero = refl
open_there (suc size) (suc n) = open_there size n

-- every valuation agrees where all is open
pub agrees_open : (size : ℕ) (m : List ℕ) → Agrees (replicate size Open) m
agrees_open size m n = subst (λ (v : Value). Stands v (get_or m n 0)) (sym (open_there size (suc n))) tt

-- a valuation that agrees still does after a literal is made true that is true in it
pub agrees_assign : (values : List Value) (m : List ℕ) (z : ℤ) → Agrees values m → is_true m z ≡ true → Agrees (set values (variable z) (truth z)) m
agrees_assign values m z a t n = stands_set values m (variable z) (truth z) n (true_stands m z t n) (a n)

-- and after a variable is opened
pub agrees_opened : (values : List Value) (m : List ℕ) (k : ℕ) → Agrees values m → Agrees (set values k Open) m
agrees_opened values m k a n = stands_set values m k Open n (λ _. tt) (a n)
