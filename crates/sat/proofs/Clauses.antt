-- A formula taken clause by clause.
use Rattle.std.proofs.Common.{◌≡◌, ℕ, zero, suc, ◌+◌, ◌<◌, ◌≤◌, false, cond, List, [], ◌∷◌, ◌++◌, length, take, drop, position, ℤ, pos, negsuc, Some, None, refl, ap, ◌∙◌, subst, arith}
use Rattle.std.specs.List.{position_or_len, before_first, after_first}
use Rattle.std.proofs.lemmas.Grind.{common_steps}
use Rattle.sat.specs.Formula.{is_zero, clauses_of, into_first}

-- a literal goes into the first of the clauses behind it
pub goes_first : (z : ℤ) (zs : List ℤ) → is_zero z ≡ false → clauses_of (z ∷ zs) ≡ into_first z (clauses_of zs)
goes_first z zs e = ap (λ b. cond b ([] ∷ clauses_of zs) (into_first z (clauses_of zs))) e

-- the first clause of a formula, and the others
further : (z : ℤ) (zs : List ℤ) (i : ℕ) → is_zero z ≡ false → clauses_of zs ≡ take i zs ∷ clauses_of (drop (i + 1) zs) →
    clauses_of (z ∷ zs) ≡ take (1 + i) (z ∷ zs) ∷ clauses_of (drop (1 + i + 1) (z ∷ zs))
further z zs i e h =
    let one : 1 + i ≡ suc i = omega arith in
    let two : suc i + 1 ≡ suc (i + 1) = omega arith in
    rw (one, two) (goes_first z zs e ∙ ap (into_first z) h)

clauses_at : (zs : List ℤ) → position_or_len is_zero zs < length zs → clauses_of zs ≡ before_first is_zero zs ∷ clauses_of (after_first is_zero zs)
clauses_at [] h = absurd (omega arith)
clauses_at (pos zero ∷ zs) h = refl
clauses_at (pos (suc n) ∷ zs) h = further (pos (suc n)) zs (position_or_len is_zero zs) refl (clauses_at zs (omega arith))
clauses_at (negsuc n ∷ zs) h = further (negsuc n) zs (position_or_len is_zero zs) refl (clauses_at zs (omega arith))

clauses_past : (zs : List ℤ) → length zs ≤ position_or_len is_zero zs → clauses_of zs ≡ []
clauses_past [] h = refl
clauses_past (pos zero ∷ zs) h = absurd (omega arith)
clauses_past (pos (suc n) ∷ zs) h = ap (into_first (pos (suc n))) (clauses_past zs (omega arith))
clauses_past (negsuc n ∷ zs) h = ap (into_first (negsuc n)) (clauses_past zs (omega arith))

pub clauses_first : (zs : List ℤ) (i : ℕ) → position is_zero zs ≡ Some i → clauses_of zs ≡ take i zs ∷ clauses_of (drop (i + 1) zs)
clauses_first zs i e =
    let inside : position_or_len is_zero zs < length zs = grind (arith, common_steps) in
    let at : position_or_len is_zero zs ≡ i = grind (arith, common_steps) in
    subst (λ n. clauses_of zs ≡ take n zs ∷ clauses_of (drop (n + 1) zs)) at (clauses_at zs inside)

pub clauses_none : (zs : List ℤ) → position is_zero zs ≡ None → clauses_of zs ≡ []
clauses_none zs e = clauses_past zs (grind (arith, common_steps))

one_more : (z : ℤ) (zs : List ℤ) (i : ℕ) → zs ≡ take i zs ++ (pos 0 ∷ drop (i + 1) zs) → z ∷ zs ≡ take (1 + i) (z ∷ zs) ++ (pos 0 ∷ drop (1 + i + 1) (z ∷ zs))
one_more z zs i h =
    let one : 1 + i ≡ suc i = omega arith in
    let two : suc i + 1 ≡ suc (i + 1) = omega arith in
    rw (one, two) (ap (λ l. z ∷ l) h)

-- the numbers are the first clause, its 0, and those behind it
whole_at : (zs : List ℤ) → position_or_len is_zero zs < length zs → zs ≡ before_first is_zero zs ++ (pos 0 ∷ after_first is_zero zs)
whole_at [] h = absurd (omega arith)
whole_at (pos zero ∷ zs) h = refl
whole_at (pos (suc n) ∷ zs) h = one_more (pos (suc n)) zs (position_or_len is_zero zs) (whole_at zs (omega arith))
whole_at (negsuc n ∷ zs) h = one_more (negsuc n) zs (position_or_len is_zero zs) (whole_at zs (omega arith))

pub whole : (zs : List ℤ) (i : ℕ) → position is_zero zs ≡ Some i → zs ≡ take i zs ++ (pos 0 ∷ drop (i + 1) zs)
whole zs i e =
    let inside : position_or_len is_zero zs < length zs = grind (arith, common_steps) in
    let at : position_or_len is_zero zs ≡ i = grind (arith, common_steps) in
    subst (λ n. zs ≡ take n zs ++ (pos 0 ∷ drop (n + 1) zs)) at (whole_at zs inside)
