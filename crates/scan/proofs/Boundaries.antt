-- Where one clause of a formula ends and the next begins.
use Rattle.std.proofs.Common.{◌≡◌, ℕ, zero, suc, ◌+◌, ◌-◌, ◌<◌, true, false, cond, ◌&&◌, ltb, List, [], ◌∷◌, ◌++◌, length, get_or, take, drop, ℤ, pos, sym, refl, ap, ◌∙◌, arith}
use Rattle.std.proofs.lemmas.List.{length-take-le, get_or-take, take-append-drop}
use Rattle.std.proofs.lemmas.Bool.{and_parts, ltb-true, cond_both}
use Rattle.sat.specs.Formula.{is_zero, into_first, clauses_of, closed}
use Rattle.scan.specs.Rounds.{start_of}

-- behind the first clause and its 0 stand the other clauses
abbrev pub Behind : List ℤ → List (List ℤ) → Type 0
Behind numbers [] = Unit {0}
Behind numbers (clause ∷ clauses) = clauses_of (drop (length clause + 1) numbers) ≡ clauses

behind_more : (z : ℤ) (numbers : List ℤ) (clauses : List (List ℤ)) → Behind numbers clauses → Behind (z ∷ numbers) (into_first z clauses)
behind_more z numbers [] h = tt
behind_more z numbers (clause ∷ clauses) h =
    let e : suc (length clause) + 1 ≡ suc (length clause + 1) = omega arith in
    ap (λ n. clauses_of (drop n (z ∷ numbers))) e ∙ h

pub behind : (numbers : List ℤ) → Behind numbers (clauses_of numbers)
behind [] = tt
behind (z ∷ numbers) =
    elim (is_zero z) as (λ b. Behind (z ∷ numbers) (cond b ([] ∷ clauses_of numbers) (into_first z (clauses_of numbers))))
    [ true ↦ refl | false ↦ behind_more z numbers (clauses_of numbers) (behind numbers) ]

-- a closed list that is not empty has a clause
abbrev SomeClause : List (List ℤ) → Type 0
SomeClause [] = ⊥
SomeClause (clause ∷ clauses) = Unit {0}

closed_more : (z y : ℤ) (a : List ℤ) → closed (z ∷ y ∷ a) ≡ closed (y ∷ a)
closed_more z y a =
    let e : suc (suc (length a)) - 1 ≡ suc (length a) = omega arith in
    let f : suc (length a) - 1 ≡ length a = omega arith in
    ap (λ n. is_zero (get_or (z ∷ y ∷ a) n (pos 0))) e ∙ sym (ap (λ n. is_zero (get_or (y ∷ a) n (pos 0))) f)

some_first : (z : ℤ) (clauses : List (List ℤ)) → SomeClause clauses → SomeClause (into_first z clauses)
some_first z [] h = h
some_first z (clause ∷ clauses) h = tt

some_clause : (z : ℤ) (a : List ℤ) → closed (z ∷ a) ≡ true → SomeClause (clauses_of (z ∷ a))
some_clause z [] h = rw h tt
some_clause z (y ∷ a) h =
    elim (is_zero z) as (λ b. SomeClause (cond b ([] ∷ clauses_of (y ∷ a)) (into_first z (clauses_of (y ∷ a)))))
    [ true ↦ tt | false ↦ some_first z (clauses_of (y ∷ a)) (some_clause y a (sym (closed_more z y a) ∙ h)) ]

first_append : (z : ℤ) (a b : List (List ℤ)) → SomeClause a → into_first z (a ++ b) ≡ into_first z a ++ b
first_append z [] b h = absurd h
first_append z (clause ∷ a) b h = refl

-- the clauses of a closed front come first
clauses_append : (a b : List ℤ) → closed a ≡ true → clauses_of (a ++ b) ≡ clauses_of a ++ clauses_of b
clauses_append [] b h = refl
clauses_append (z ∷ []) b h = rw h refl
clauses_append (z ∷ y ∷ a) b h =
    let g : closed (y ∷ a) ≡ true = sym (closed_more z y a) ∙ h in
    let e : clauses_of ((y ∷ a) ++ b) ≡ clauses_of (y ∷ a) ++ clauses_of b = clauses_append (y ∷ a) b g in
    elim (is_zero z) as (λ t. cond t ([] ∷ clauses_of ((y ∷ a) ++ b)) (into_first z (clauses_of ((y ∷ a) ++ b))) ≡ cond t ([] ∷ clauses_of (y ∷ a)) (into_first z (clauses_of (y ∷ a))) ++ clauses_of b)
    [ true ↦ ap (λ l. [] ∷ l) e | false ↦ ap (into_first z) e ∙ first_append z (clauses_of (y ∷ a)) (clauses_of b) (some_clause y a g) ]

-- the numbers before the place where a round begins are closed
closed_before : (formula : List ℤ) (n : ℕ) → n < length formula → is_zero (get_or formula n (pos 0)) ≡ true → closed (take (suc n) formula) ≡ true
closed_before formula n h z =
    let l : length (take (suc n) formula) - 1 ≡ n = omega (arith, length-take-le (suc n) formula (omega arith)) in
    ap (λ k. is_zero (get_or (take (suc n) formula) k (pos 0))) l ∙ ap is_zero (get_or-take (suc n) formula n (pos 0) (omega arith)) ∙ z

start_closed : (formula : List ℤ) (proposed : ℕ) → closed (take (start_of formula proposed) formula) ≡ true
start_closed formula zero = refl
start_closed formula (suc n) =
    cond_both (ltb n (length formula) && is_zero (get_or formula n (pos 0))) (suc n) 0 (λ k. closed (take k formula) ≡ true)
    (λ e. let p : _ = and_parts (ltb n (length formula)) (is_zero (get_or formula n (pos 0))) e in closed_before formula n (ltb-true n (length formula) p.0) p.1)
    (λ _. refl)

-- a formula's clauses, cut where a round begins
pub clauses_cut : (formula : List ℤ) (proposed : ℕ) →
    clauses_of formula ≡ clauses_of (take (start_of formula proposed) formula) ++ clauses_of (drop (start_of formula proposed) formula)
clauses_cut formula proposed =
    let s : ℕ = start_of formula proposed in
    ap clauses_of (sym (take-append-drop s formula)) ∙ clauses_append (take s formula) (drop s formula) (start_closed formula proposed)
