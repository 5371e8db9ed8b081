-- The lowest full end of a net.
use Rattle.std.proofs.Common.{◌≡◌, ℕ, zero, suc, ◌+◌, ◌^◌, ◌<◌, ◌≤◌, Bool, true, false, cond, ◌&&◌, leb, List, [], ◌∷◌, filter, find, Some, None, Option, sym, refl, ap, ◌∙◌, ⊎_elim, arith}
use Rattle.std.proofs.lemmas.Bool.{leb-true, leb-false, cases_Bool, cases_eq, and_cases, and_parts, false≢true}
use Rattle.std.specs.List.{range_with_len}
use Rattle.board.specs.declared.net.Net.{Net}
use Rattle.board.specs.Rows.{chips_of, has_end, load, lowest_full_in}
use Rattle.board.proofs.Ends.{end_low, end_high}

-- the first of a filtered list that passes a test is the first of the list that passes both
find-filter : (test kept : ℕ → Bool) (xs : List ℕ) → find test (filter kept xs) ≡ find (λ x. kept x && test x) xs
find-filter test kept [] = refl
find-filter test kept (x ∷ xs) =
    elim (kept x) as (λ b. find test (cond b (x ∷ filter kept xs) (filter kept xs)) ≡ cond (b && test x) (Some x) (find (λ y. kept y && test y) xs)) [
      | true ↦ ap (λ t. cond (test x) (Some x) t) (find-filter test kept xs)
      | false ↦ find-filter test kept xs
    ]

as_range : (limit : ℕ) (rows : List (Option Net)) (ends : ℕ) → lowest_full_in limit rows ends ≡ find (λ x. has_end ends x && leb limit (load x rows)) (range_with_len 1 32)
unfolding lowest_full_in chips_of
as_range limit rows ends = find-filter (λ x. leb limit (load x rows)) (has_end ends) (range_with_len 1 32)

-- what the first of a run of numbers that passes a test tells of those before it
first_none : (test : ℕ → Bool) (n a : ℕ) → find test (range_with_len a n) ≡ None → (c : ℕ) → a ≤ c → c < a + n → test c ≡ false
first_none test zero a e c l h = absurd (omega arith)
first_none test (suc n) a e c l h =
    ⊎_elim
    (λ t. absurd (none≢some (a) (sym e ∙ ap (λ b. cond b (Some a) (find test (range_with_len (a + 1) n))) t)))
    (λ t.
    let rest : find test (range_with_len (a + 1) n) ≡ None = sym (ap (λ b. cond b (Some a) (find test (range_with_len (a + 1) n))) t) ∙ e in
    ⊎_elim (λ same. ap test (sym same) ∙ t) (λ other. first_none test n (a + 1) rest c (omega arith) (omega arith)) (cases_eq a c))
    (cases_Bool (test a))
  where
    none≢some : (x : ℕ) → ◌≡◌ {A = Option ℕ} None (Some x) → ⊥
    none≢some x q = let z : ◌≡◌ {A = ℕ} 0 1 = cc in omega arith

first_some : (test : ℕ → Bool) (n a c : ℕ) → find test (range_with_len a n) ≡ Some c → (test c ≡ true) × ((d : ℕ) → a ≤ d → d < c → test d ≡ false)
first_some test zero a c e = absurd (let z : ◌≡◌ {A = ℕ} 0 1 = cc in omega arith)
first_some test (suc n) a c e =
    ⊎_elim
    (λ t.
    let got : Some a ≡ Some c = sym (ap (λ b. cond b (Some a) (find test (range_with_len (a + 1) n))) t) ∙ e in
    let same : a ≡ c = cc in
    (ap test (sym same) ∙ t, λ d l h. absurd (omega arith)))
    (λ t.
    let rest : find test (range_with_len (a + 1) n) ≡ Some c = sym (ap (λ b. cond b (Some a) (find test (range_with_len (a + 1) n))) t) ∙ e in
    let more = first_some test n (a + 1) c rest in
    (more.0, λ d l h. ⊎_elim (λ same. ap test (sym same) ∙ t) (λ other. more.1 d (omega arith) h) (cases_eq a d)))
    (cases_Bool (test a))

-- where no end is full, every end has room
pub all_have_room : (limit : ℕ) (rows : List (Option Net)) (ends : ℕ) → ends < 2 ^ 32 → lowest_full_in limit rows ends ≡ None →
    (chip : ℕ) → has_end ends chip ≡ true → load chip rows < limit
all_have_room limit rows ends h none chip e =
    let low : 1 ≤ chip = end_low ends chip e in
    let high : chip ≤ 32 = end_high 32 ends chip h e in
    let t = first_none (λ x. has_end ends x && leb limit (load x rows)) 32 1 (sym (as_range limit rows ends) ∙ none) chip low (omega arith) in
    leb-false limit (load chip rows) (⊎_elim (λ f. absurd (false≢true (sym f ∙ e))) (λ f. f) (and_cases (has_end ends chip) (leb limit (load chip rows)) t))

-- the chip that is named is an end, is full, and no lower end is
pub record NamedFull (limit : ℕ) (rows : List (Option Net)) (ends chip : ℕ) : Type 0 where
  pub end : has_end ends chip ≡ true
  pub full : limit ≤ load chip rows
  pub lowest : (lower : ℕ) → lower < chip → has_end ends lower ≡ true → load lower rows < limit

pub named_full : (limit : ℕ) (rows : List (Option Net)) (ends chip : ℕ) → lowest_full_in limit rows ends ≡ Some chip → NamedFull limit rows ends chip
named_full limit rows ends chip e =
    let f = first_some (λ x. has_end ends x && leb limit (load x rows)) 32 1 chip (sym (as_range limit rows ends) ∙ e) in
    let both = and_parts (has_end ends chip) (leb limit (load chip rows)) f.0 in
    record {
      end = both.0;
      full = leb-true limit (load chip rows) both.1;
      lowest = λ lower l t.
          leb-false limit (load lower rows)
          (⊎_elim (λ g. absurd (false≢true (sym g ∙ t))) (λ g. g) (and_cases (has_end ends lower) (leb limit (load lower rows)) (f.1 lower (end_low ends lower t) l)));
    }

-- so it is one of the 32 chips
pub full_inside : (limit : ℕ) (rows : List (Option Net)) (ends chip : ℕ) → ends < 2 ^ 32 → lowest_full_in limit rows ends ≡ Some chip → chip ≤ 32
full_inside limit rows ends chip h e = end_high 32 ends chip h (named_full limit rows ends chip e).end
