-- The test of a question as `Models` has it.
use Rattle.std.proofs.Common.{◌≡◌, ℕ, zero, suc, ◌≤◌, Bool, true, false, ◌||◌, ◌&&◌, List, [], ◌∷◌, length, ℤ, pos, negsuc, refl, sym, ap, ◌∙◌}
use Rattle.std.specs.List.{AllByRecursion, list_all}
use Rattle.std.proofs.lemmas.Bool.{and_parts, and_from, false≢true}
use Rattle.std.proofs.lemmas.List.Elements.{All-from_recursion, recursion_from_All}
use Rattle.std.proofs.lemmas.List.Sums.{AllPass-from_list_all, list_all-from_AllPass}
use Rattle.sat.specs.Formula.{is_true, is_zero, satisfied, clauses_of, into_first, every}
use Rattle.sat.specs.Question.{Models}
use Rattle.sat.proofs.Clauses.{goes_first}
use Rattle.odometer.specs.Candidate.{all_satisfied, answers_all, cut_satisfied}

-- the tests say what `Models` says
module _ {A : Type 0} (test : A → Bool) (xs : List A) where
  all_from_test : list_all test xs ≡ true → AllByRecursion (λ x. test x ≡ true) xs
  all_from_test e = recursion_from_All (λ x. test x ≡ true) xs (AllPass-from_list_all test xs e)

  test_from_all : AllByRecursion (λ x. test x ≡ true) xs → list_all test xs ≡ true
  test_from_all h = list_all-from_AllPass test xs (All-from_recursion (λ x. test x ≡ true) xs h)

module _ (v : ℕ) (formula assumed : List ℤ) (values : List ℕ) where
  pub models_from_answers : length values ≡ v → AllByRecursion (λ byte. byte ≤ 1) values → answers_all values formula assumed ≡ true → Models v formula assumed values
  models_from_answers size bits a =
      let p = and_parts (every (is_true values) assumed) (all_satisfied values (clauses_of formula)) a in
      record {
        size = size;
        bits = bits;
        clauses = all_from_test (satisfied values) (clauses_of formula) p.1;
        kept = all_from_test (is_true values) assumed p.0;
      }

  pub answers_from_models : Models v formula assumed values → answers_all values formula assumed ≡ true
  answers_from_models m =
      and_from (every (is_true values) assumed) (all_satisfied values (clauses_of formula))
      (test_from_all (is_true values) assumed m.kept) (test_from_all (satisfied values) (clauses_of formula) m.clauses)

-- what the first number of a formula decides
module _ (values : List ℕ) where
  true_first : (z : ℤ) (clauses : List (List ℤ)) → is_true values z ≡ true → all_satisfied values (into_first z clauses) ≡ cut_satisfied values (into_first z clauses)
  true_first z [] e = refl
  true_first z (clause ∷ clauses) e = ap (λ b. (b || satisfied values clause) && all_satisfied values clauses) e

  false_first : (z : ℤ) (clauses : List (List ℤ)) → is_true values z ≡ false → all_satisfied values (into_first z clauses) ≡ all_satisfied values clauses
  false_first z [] e = refl
  false_first z (clause ∷ clauses) e = ap (λ b. (b || satisfied values clause) && all_satisfied values clauses) e

  -- the first clause ends here, and had no true literal
  pub cut_end : (z : ℤ) (zs : List ℤ) → is_zero z ≡ true → all_satisfied values (clauses_of (z ∷ zs)) ≡ cut_satisfied values (clauses_of (z ∷ zs))
  cut_end (pos zero) zs e = refl
  cut_end (pos (suc n)) zs e = absurd (false≢true e)
  cut_end (negsuc n) zs e = absurd (false≢true e)

  -- here is its first true literal
  pub cut_here : (z : ℤ) (zs : List ℤ) → is_zero z ≡ false → is_true values z ≡ true → all_satisfied values (clauses_of (z ∷ zs)) ≡ cut_satisfied values (clauses_of (z ∷ zs))
  cut_here z zs n e = let first = goes_first z zs n in ap (all_satisfied values) first ∙ (true_first z (clauses_of zs) e ∙ sym (ap (cut_satisfied values) first))

  -- a literal that is not true decides nothing
  pub cut_behind : (z : ℤ) (zs : List ℤ) → is_zero z ≡ false → is_true values z ≡ false → all_satisfied values (clauses_of (z ∷ zs)) ≡ all_satisfied values (clauses_of zs)
  cut_behind z zs n e = ap (all_satisfied values) (goes_first z zs n) ∙ false_first z (clauses_of zs) e
