-- The formula of a clause list: its clauses are that list, where no literal is 0, and what holds of its numbers.
use Rattle.std.proofs.Common.{◌≡◌, zero, suc, ◌+◌, ◌-◌, Bool, true, List, [], ◌∷◌, ◌++◌, length, get_or, ℤ, pos, negsuc, refl, ap, ◌∙◌, arith}
use Rattle.std.proofs.lemmas.List.{get_or-append-add, length-append}
use Rattle.std.proofs.lemmas.Bool.{and_from, and_parts, false≢true}
use Rattle.std.specs.List.{AllByRecursion}
use Rattle.sat.specs.Formula.{clauses_of, closed, encode, every, into_first, is_zero, literals}

-- one clause is read up to its 0
pub clauses_of_clause : (clause rest : List ℤ) → literals clause ≡ true → clauses_of (clause ++ (pos 0 ∷ rest)) ≡ clause ∷ clauses_of rest
clauses_of_clause [] rest h = refl
clauses_of_clause (pos zero ∷ clause) rest h = absurd (false≢true h)
clauses_of_clause (pos (suc n) ∷ clause) rest h = ap (into_first (pos (suc n))) (clauses_of_clause clause rest h)
clauses_of_clause (negsuc n ∷ clause) rest h = ap (into_first (negsuc n)) (clauses_of_clause clause rest h)

pub clauses_of-encode : (clauses : List (List ℤ)) → AllByRecursion (λ clause. literals clause ≡ true) clauses → clauses_of (encode clauses) ≡ clauses
clauses_of-encode [] h = refl
clauses_of-encode (clause ∷ clauses) h =
    clauses_of_clause clause (encode clauses) h.0 ∙ ap (λ rest. clause ∷ rest) (clauses_of-encode clauses h.1)

-- ---- the numbers of an encoded clause list

every_append : (test : ℤ → Bool) (xs ys : List ℤ) → every test xs ≡ true → every test ys ≡ true → every test (xs ++ ys) ≡ true
every_append test [] ys p q = q
every_append test (x ∷ xs) ys p q =
    let parts = and_parts (test x) (every test xs) p in and_from (test x) (every test (xs ++ ys)) parts.0 (every_append test xs ys parts.1 q)

-- a test that passes at 0 and at each literal passes at every number
pub every-encode : (test : ℤ → Bool) → test (pos 0) ≡ true → (clauses : List (List ℤ)) → AllByRecursion (λ clause. every test clause ≡ true) clauses → every test (encode clauses) ≡ true
every-encode test z [] h = refl
every-encode test z (clause ∷ clauses) h =
    every_append test clause (pos 0 ∷ encode clauses) h.0 (and_from (test (pos 0)) (every test (encode clauses)) z (every-encode test z clauses h.1))

-- the last number is 0
pub closed-encode : (clauses : List (List ℤ)) → closed (encode clauses) ≡ true
closed-encode [] = refl
closed-encode (clause ∷ clauses) = closed_behind clause (encode clauses) (closed-encode clauses)
  where
    last : (rest : List ℤ) → closed rest ≡ true → is_zero (get_or (pos 0 ∷ rest) (length rest) (pos 0)) ≡ true
    last [] h = refl
    last (z ∷ rest) h = let place : length rest ≡ length (z ∷ rest) - 1 = omega arith in ap (λ i. is_zero (get_or (z ∷ rest) i (pos 0))) place ∙ h

    closed_behind : (xs rest : List ℤ) → closed rest ≡ true → closed (xs ++ (pos 0 ∷ rest)) ≡ true
    closed_behind xs rest h =
        let place : length (xs ++ (pos 0 ∷ rest)) - 1 ≡ length xs + length rest = omega (arith, length-append xs (pos 0 ∷ rest)) in
        ap (λ i. is_zero (get_or (xs ++ (pos 0 ∷ rest)) i (pos 0))) place ∙ ap is_zero (get_or-append-add xs (pos 0 ∷ rest) (length rest) (pos 0)) ∙ last rest h
