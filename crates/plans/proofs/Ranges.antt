-- What holds of the numbers a, a + 1 .. of `counting`: of each, of some, and how many pass a test.
use Rattle.std.proofs.Common.{◌≡◌, ℕ, zero, suc, ◌+◌, ◌<◌, ◌≤◌, Bool, true, false, cond, count_by, sym, refl, ap, ◌∙◌, ⊎_elim, arith}
use Rattle.std.proofs.lemmas.List.Sums.{sum_by-cons}
use Rattle.std.proofs.lemmas.Bool.{cases_Bool, cases_eq, false≢true, or_cases, or_left, or_right}
use Rattle.std.specs.List.{range_with_len, AllByRecursion}
use Rattle.plans.proofs.Elements.{any}

-- of each
pub all_counting : (P : ℕ → Type 0) (a n : ℕ) → ((i : ℕ) → a ≤ i → i < a + n → P i) → AllByRecursion P (range_with_len a n)
all_counting P a zero h = tt
all_counting P a (suc n) h = (h a (omega arith) (omega arith), all_counting P (a + 1) n (λ i low high. h i (omega arith) (omega arith)))

pub counting_all : (P : ℕ → Type 0) (a n : ℕ) → AllByRecursion P (range_with_len a n) → (i : ℕ) → a ≤ i → i < a + n → P i
counting_all P a zero h i low high = absurd (omega arith)
counting_all P a (suc n) h i low high =
    ⊎_elim
    (λ e. rw (← e) h.0)
    (λ e. counting_all P (a + 1) n h.1 i (omega arith) (omega arith))
    (cases_eq a i)

-- of some
pub any_counting : (test : ℕ → Bool) (a n i : ℕ) → a ≤ i → i < a + n → test i ≡ true → any test (range_with_len a n) ≡ true
any_counting test a zero i low high e = absurd (omega arith)
any_counting test a (suc n) i low high e =
    ⊎_elim
    (λ same. or_left (test a) _ (ap test same ∙ e))
    (λ other. or_right (test a) _ (any_counting test (a + 1) n i (omega arith) (omega arith) e))
    (cases_eq a i)

pub counting_any : (test : ℕ → Bool) (a n : ℕ) → any test (range_with_len a n) ≡ true → (i : ℕ) × (a ≤ i) × (i < a + n) × (test i ≡ true)
counting_any test a zero h = absurd (false≢true h)
counting_any test a (suc n) h =
    ⊎_elim
    (λ e. (a, omega arith, omega arith, e))
    (λ e. let rest = counting_any test (a + 1) n e in (rest.0, omega (arith, rest.1), omega (arith, rest.2), rest.3))
    (or_cases (test a) (any test (range_with_len (a + 1) n)) h)

-- how many pass a test: none, at most one, the same by two tests
module _ (test : ℕ → Bool) where
  abbrev passing : ℕ → ℕ → ℕ
  passing a n = count_by test (range_with_len a n)

  yes_more : (a n : ℕ) → test a ≡ true → passing a (suc n) ≡ suc (passing (a + 1) n)
  yes_more a n e = let o : ◌≡◌ {A = ℕ} (cond (test a) 1 0) 1 = ap (λ b. cond b 1 0) e in omega (arith, sum_by-cons (λ x. cond (test x) 1 0) a (range_with_len (a + 1) n))

  no_more : (a n : ℕ) → test a ≡ false → passing a (suc n) ≡ passing (a + 1) n
  no_more a n e = let o : ◌≡◌ {A = ℕ} (cond (test a) 1 0) 0 = ap (λ b. cond b 1 0) e in omega (arith, sum_by-cons (λ x. cond (test x) 1 0) a (range_with_len (a + 1) n))

  pub count_none : (a n : ℕ) → ((i : ℕ) → a ≤ i → i < a + n → test i ≡ false) → count_by test (range_with_len a n) ≡ 0
  count_none a zero h = refl
  count_none a (suc n) h =
      no_more a n (h a (omega arith) (omega arith)) ∙ count_none (a + 1) n (λ i low high. h i (omega arith) (omega arith))

  pub count_some : (a n i : ℕ) → a ≤ i → i < a + n → test i ≡ true → 0 < count_by test (range_with_len a n)
  count_some a zero i low high e = absurd (omega arith)
  count_some a (suc n) i low high e =
      ⊎_elim
      (λ t. omega (arith, yes_more a n t))
      (λ f.
      let other : a ≡ i → ⊥ = λ same. false≢true (sym f ∙ ap test same ∙ e) in
      omega (arith, no_more a n f, count_some (a + 1) n i (omega arith) (omega arith) e))
      (cases_Bool (test a))

  -- where each that passes is the same one
  pub count_one : (a n : ℕ) → ((i j : ℕ) → i < j → j < a + n → test i ≡ true → test j ≡ true → ⊥) → count_by test (range_with_len a n) < 2
  count_one a zero h = omega arith
  count_one a (suc n) h =
      ⊎_elim
      (λ t.
      let rest = count_none (a + 1) n (λ i low high. ⊎_elim (λ u. absurd (h a i (omega arith) (omega arith) t u)) (λ f. f) (cases_Bool (test i))) in
      omega (arith, yes_more a n t))
      (λ f. omega (arith, no_more a n f, count_one (a + 1) n (λ i j l high. h i j l (omega arith))))
      (cases_Bool (test a))

  pub one_counted : (a n : ℕ) → count_by test (range_with_len a n) < 2 → (i j : ℕ) → a ≤ i → i < j → j < a + n → test i ≡ true → test j ≡ true → ⊥
  one_counted a zero h i j low less high t u = omega arith
  one_counted a (suc n) h i j low less high t u =
      ⊎_elim
      (λ same. omega (arith, yes_more a n (ap test same ∙ t), count_some (a + 1) n j (omega arith) (omega arith) u))
      (λ other.
      ⊎_elim
      (λ e. one_counted (a + 1) n (omega (arith, yes_more a n e)) i j (omega arith) less (omega arith) t u)
      (λ e. one_counted (a + 1) n (omega (arith, no_more a n e)) i j (omega arith) less (omega arith) t u)
      (cases_Bool (test a)))
      (cases_eq a i)
