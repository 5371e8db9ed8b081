-- At most s elements of a list fail a test exactly when each of its sublists of s + 1 has one that passes.
use Rattle.std.proofs.Common.{◌≡◌, ℕ, zero, suc, ◌<◌, Bool, true, false, cond, not, ◌||◌, List, [], ◌∷◌, map, ℤ, count_by, sym, refl, ap, ◌∙◌, ⊎_elim, arith}
use Rattle.std.proofs.ByRecursion.{All-append, All-map, All-weaker}
use Rattle.std.proofs.lemmas.List.Sums.{sum_by-cons}
use Rattle.std.proofs.lemmas.Bool.{cases_Bool, false≢true, or_left, or_right}
use Rattle.std.specs.List.{AllByRecursion}
use Rattle.subsets.specs.Choose.{choose}
use Rattle.sat.specs.Formula.{is_true, satisfied}
use Rattle.plans.proofs.Elements.{all_left, all_of, all_right, all_unmap, any}

pub all_choose : {X : Type 0} (P : X → Type 0) (s : ℕ) (xs : List X) → AllByRecursion P xs → AllByRecursion (AllByRecursion P) (choose s xs)
unfolding choose
all_choose P zero xs h = (tt, tt)
all_choose P (suc s) [] h = tt
all_choose P (suc s) (x ∷ xs) h =
    All-append (AllByRecursion P) _ _
    (All-map (AllByRecursion P) (λ ys. x ∷ ys) (choose s xs) (All-weaker (AllByRecursion P) (λ ys. AllByRecursion P (x ∷ ys)) (λ ys a. (h.0, a)) (choose s xs) (all_choose P s xs h.1)))
    (all_choose P (suc s) xs h.1)

module _ {X : Type 0} (test : X → Bool) where
  -- how many fail the test
  abbrev failing : List X → ℕ
  failing xs = count_by (λ x. not (test x)) xs

  fails : (x : X) (xs : List X) → test x ≡ false → failing (x ∷ xs) ≡ suc (failing xs)
  fails x xs e = let n : ◌≡◌ {A = ℕ} (cond (not (test x)) 1 0) 1 = ap (λ b. cond (not b) 1 0) e in omega (arith, sum_by-cons (λ y. cond (not (test y)) 1 0) x xs)

  passes : (x : X) (xs : List X) → test x ≡ true → failing (x ∷ xs) ≡ failing xs
  passes x xs e = let n : ◌≡◌ {A = ℕ} (cond (not (test x)) 1 0) 0 = ap (λ b. cond (not b) 1 0) e in omega (arith, sum_by-cons (λ y. cond (not (test y)) 1 0) x xs)

  pub few_from_choose : (s : ℕ) (xs : List X) → AllByRecursion (λ ys. any test ys ≡ true) (choose s xs) → count_by (λ x. not (test x)) xs < s
  unfolding choose
  few_from_choose zero xs h = absurd (false≢true h.0)
  few_from_choose (suc s) [] h = omega arith
  few_from_choose (suc s) (x ∷ xs) h =
      let P : List X → Type 0 = λ ys. any test ys ≡ true in
      let with-x = all_unmap P (λ ys. x ∷ ys) (choose s xs) (all_left P _ (choose (suc s) xs) h) in
      let without = few_from_choose (suc s) xs (all_right P (map (λ ys. x ∷ ys) (choose s xs)) _ h) in
      ⊎_elim
      (λ e. omega (arith, passes x xs e))
      (λ e.
      let rest = few_from_choose s xs (All-weaker (λ ys. P (x ∷ ys)) P (λ ys q. sym (ap (λ b. b || any test ys) e) ∙ q) (choose s xs) with-x) in
      omega (arith, fails x xs e))
      (cases_Bool (test x))

  pub choose_from_few : (s : ℕ) (xs : List X) → count_by (λ x. not (test x)) xs < s → AllByRecursion (λ ys. any test ys ≡ true) (choose s xs)
  unfolding choose
  choose_from_few zero xs h = absurd (omega arith)
  choose_from_few (suc s) [] h = tt
  choose_from_few (suc s) (x ∷ xs) h =
      let P : List X → Type 0 = λ ys. any test ys ≡ true in
      ⊎_elim
      (λ e.
      let here = all_of (λ ys. P (x ∷ ys)) (λ ys. or_left (test x) (any test ys) e) (choose s xs) in
      All-append P _ _ (All-map P (λ ys. x ∷ ys) (choose s xs) here) (choose_from_few (suc s) xs (omega (arith, passes x xs e))))
      (λ e.
      let there = All-weaker P (λ ys. P (x ∷ ys)) (λ ys. or_right (test x) (any test ys)) (choose s xs) (choose_from_few s xs (omega (arith, fails x xs e))) in
      All-append P _ _ (All-map P (λ ys. x ∷ ys) (choose s xs) there) (choose_from_few (suc s) xs (omega (arith, fails x xs e))))
      (cases_Bool (test x))

-- ---- a clause for each sublist

-- a clause is satisfied where some literal is true
pub satisfied-map : {X : Type 0} (values : List ℕ) (literal : X → ℤ) (xs : List X) → satisfied values (map literal xs) ≡ any (λ x. is_true values (literal x)) xs
satisfied-map values literal [] = refl
satisfied-map values literal (x ∷ xs) = ap (λ b. is_true values (literal x) || b) (satisfied-map values literal xs)

pub few_from_clauses : {X : Type 0} (values : List ℕ) (literal : X → ℤ) (s : ℕ) (xs : List X) →
    AllByRecursion (λ clause. satisfied values clause ≡ true) (map (map literal) (choose s xs)) → count_by (λ x. not (is_true values (literal x))) xs < s
few_from_clauses values literal s xs h =
    few_from_choose (λ x. is_true values (literal x)) s xs
    (All-weaker (λ ys. satisfied values (map literal ys) ≡ true) (λ ys. any (λ x. is_true values (literal x)) ys ≡ true) (λ ys e. sym (satisfied-map values literal ys) ∙ e) (choose s xs)
    (all_unmap (λ clause. satisfied values clause ≡ true) (map literal) (choose s xs) h))

pub clauses_from_few : {X : Type 0} (values : List ℕ) (literal : X → ℤ) (s : ℕ) (xs : List X) →
    count_by (λ x. not (is_true values (literal x))) xs < s → AllByRecursion (λ clause. satisfied values clause ≡ true) (map (map literal) (choose s xs))
clauses_from_few values literal s xs h =
    All-map (λ clause. satisfied values clause ≡ true) (map literal) (choose s xs)
    (All-weaker (λ ys. any (λ x. is_true values (literal x)) ys ≡ true) (λ ys. satisfied values (map literal ys) ≡ true) (λ ys e. satisfied-map values literal ys ∙ e) (choose s xs)
    (choose_from_few (λ x. is_true values (literal x)) s xs h))
