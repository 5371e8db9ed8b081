-- The chips of one net, chip by chip: what each adds to the ranks of a place.
use Rattle.std.proofs.Common.{◌≡◌, ℕ, zero, suc, ◌+◌, ◌-◌, ◌^◌, ◌<◌, ◌≤◌, Bool, true, false, cond, eqb, List, [], ◌∷◌, ◌++◌, length, filter, sym, refl, ap, ◌∙◌, ap₂, ⊎_elim, subst, arith}
use Rattle.std.proofs.lemmas.List.{append_assoc, length-append}
use Rattle.std.proofs.lemmas.List.Elements.{filter_passes}
use Rattle.std.proofs.lemmas.Bool.{cases_eq, cases_lt, eq-eqb, ne_eqb}
use Rattle.std.specs.List.{All, flat_map, range_with_len}
use Rattle.board.proofs.Ends.{no_end_above}
use Rattle.board.specs.Rows.{chips_of, has_end}

-- what the chips of a list add to the ranks of the chip of a place
abbrev pub marks : (rank place : ℕ) → List ℕ → List ℕ
marks rank place chips = flat_map (λ chip. cond (eqb chip (place + 1)) (rank ∷ []) []) chips

module _ (p : ℕ → Bool) (rank place : ℕ) where
  -- of the numbers from a on that pass a test
  passing : (a n : ℕ) → List ℕ
  passing a n = marks rank place (filter p (range_with_len a n))

  first_other : (a n : ℕ) → eqb a (place + 1) ≡ false → passing a (suc n) ≡ passing (a + 1) n
  unfolding passing
  first_other a n other =
      elim (p a) as (λ b. marks rank place (cond b (a ∷ filter p (range_with_len (a + 1) n)) (filter p (range_with_len (a + 1) n))) ≡ marks rank place (filter p (range_with_len (a + 1) n)))
      [ true ↦ ap (λ b. cond b (rank ∷ []) [] ++ marks rank place (filter p (range_with_len (a + 1) n))) other | false ↦ refl ]

  marks_outside : (n a : ℕ) → (a ≤ place + 1 → place + 1 < a + n → ⊥) → passing a n ≡ []
  unfolding passing
  marks_outside zero a out = refl
  marks_outside (suc n) a out =
      first_other a n (ne_eqb a (place + 1) (λ e. out (omega arith) (omega arith))) ∙ marks_outside n (a + 1) (λ l h. out (omega arith) (omega arith))

  marks_inside : (n a : ℕ) → a ≤ place + 1 → place + 1 < a + n → passing a n ≡ cond (p (place + 1)) (rank ∷ []) []
  unfolding passing
  marks_inside zero a l h = absurd (omega arith)
  marks_inside (suc n) a l h =
      ⊎_elim
      (λ (same : a ≡ place + 1).
      let rest : passing (a + 1) n ≡ [] = marks_outside n (a + 1) (λ low high. omega arith) in
      let test : eqb a (place + 1) ≡ true = eq-eqb a (place + 1) same in
      elim (p a) as (λ b. p a ≡ b → marks rank place (cond b (a ∷ filter p (range_with_len (a + 1) n)) (filter p (range_with_len (a + 1) n))) ≡ cond b (rank ∷ []) [])
      [ true ↦ λ e. ap₂ (λ b l. cond b (rank ∷ []) [] ++ l) test rest | false ↦ λ e. rest ] refl ∙ ap (λ k. cond (p k) (rank ∷ []) []) same)
      (λ ne. first_other a n (ne_eqb a (place + 1) ne) ∙ marks_inside n (a + 1) (omega arith) (omega arith))
      (cases_eq a (place + 1))

-- those of a set are marked once
pub marks_all : (ends rank place : ℕ) → ends < 2 ^ 32 → marks rank place (chips_of ends) ≡ cond (has_end ends (place + 1)) (rank ∷ []) []
unfolding chips_of passing
marks_all ends rank place small =
    ⊎_elim
    (λ (l : place + 1 < 33). marks_inside (has_end ends) rank place 32 1 (omega arith) l)
    (λ h.
    marks_outside (has_end ends) rank place 32 1 (λ low high. omega arith)
    ∙ ap (λ b. cond b (rank ∷ []) []) (sym (no_end_above 32 ends (place + 1) small (omega arith))))
    (cases_lt (place + 1) 33)

pub chips_are_ends : (ends : ℕ) → All (λ chip. has_end ends chip ≡ true) (chips_of ends)
unfolding chips_of
chips_are_ends ends = filter_passes (has_end ends) (range_with_len 1 32)

-- the first of them, and the others
module _ (ends chip : ℕ) (chips rest : List ℕ) (all : All (λ c. has_end ends c ≡ true) chips) (first : chips ≡ chip ∷ rest) where
  pub first_end : has_end ends chip ≡ true
  first_end = let Ends : List ℕ → Type 0 = λ l. All (λ c. has_end ends c ≡ true) l in subst Ends first all 0 0 (omega arith)

  pub other_ends : All (λ c. has_end ends c ≡ true) rest
  other_ends k d h = let Ends : List ℕ → Type 0 = λ l. All (λ c. has_end ends c ≡ true) l in subst Ends first all (suc k) d (omega arith)

-- the place of a chip
place_of : (chip place : ℕ) → 1 ≤ chip → eqb place (chip - 1) ≡ eqb chip (place + 1)
place_of chip place l =
    ⊎_elim
    (λ (same : chip ≡ place + 1). eq-eqb place (chip - 1) (omega arith) ∙ sym (eq-eqb chip (place + 1) same))
    (λ ne. ne_eqb place (chip - 1) (λ e. ne (omega arith)) ∙ sym (ne_eqb chip (place + 1) ne))
    (cases_eq chip (place + 1))

-- one chip is entered, the others are left
pub mark_more : (now next whole rest : List ℕ) (rank place chip : ℕ) → 1 ≤ chip → next ≡ now ++ cond (eqb place (chip - 1)) (rank ∷ []) [] → now ++ marks rank place (chip ∷ rest) ≡ whole → next ++ marks rank place rest ≡ whole
mark_more now next whole rest rank place chip l pushed inv =
    ap (λ xs. xs ++ marks rank place rest) (pushed ∙ ap (λ b. now ++ cond b (rank ∷ []) []) (place_of chip place l))
    ∙ append_assoc now (cond (eqb chip (place + 1)) (rank ∷ []) []) (marks rank place rest) ∙ inv

-- its place has as many as before, and so has room
pub mark_room : (now was rest : List ℕ) (rank chip : ℕ) (end : Bool) → 1 ≤ chip → now ++ marks rank (chip - 1) (chip ∷ rest) ≡ was ++ cond end (rank ∷ []) [] → length was < 32 → length now < 32
mark_room now was rest rank chip end l inv room =
    let back : chip ≡ chip - 1 + 1 = omega arith in
    let first : now ++ ((rank ∷ []) ++ marks rank (chip - 1) rest) ≡ was ++ cond end (rank ∷ []) [] =
    ap (λ b. now ++ (cond b (rank ∷ []) [] ++ marks rank (chip - 1) rest)) (sym (eq-eqb chip (chip - 1 + 1) back)) ∙ inv in
    let most : length (cond end (rank ∷ []) []) ≤ 1 = elim end as (λ b. length (cond b (rank ∷ []) []) ≤ 1) [ true ↦ omega arith | false ↦ omega arith ] in
    omega (arith, simp length-append at (ap length first), most, room)
