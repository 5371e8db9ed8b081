-- Lists that are joined along a count.
use Rattle.std.proofs.Common.{◌≡◌, ℕ, zero, suc, ◌+◌, ◌-◌, ◌*◌, ◌/◌, ◌%◌, ◌<◌, ◌≤◌, List, [], ◌∷◌, ◌++◌, length, get_or, take, sym, refl, ap, ◌∙◌, ap₂, add-zero, suc-mul, add-mul, zero-add, zero-mul, arith}
use Rattle.std.proofs.lemmas.Nat.{div-mul-add, mod-mul-add}
use Rattle.std.proofs.lemmas.List.{append-nil, length-append, take_more}
use Rattle.std.proofs.lemmas.List.Concat.{flat_map-append}
use Rattle.std.specs.List.{range_with_len, flat_map}

counting_append : (a m n : ℕ) → range_with_len a (m + n) ≡ range_with_len a m ++ range_with_len (a + m) n
counting_append a zero n =
    let s : 0 + n ≡ n = omega arith in
    let t : a ≡ a + 0 = omega arith in
    ap (range_with_len a) s ∙ ap (λ b. range_with_len b n) t
counting_append a (suc m) n =
    let s : suc m + n ≡ suc (m + n) = omega arith in
    let t : a + 1 + m ≡ a + suc m = omega arith in
    ap (range_with_len a) s ∙ ap (λ l. a ∷ l) (counting_append (a + 1) m n ∙ ap (λ b. range_with_len (a + 1) m ++ range_with_len b n) t)

module _ {Y : Type 0} where
  -- a count in two parts
  pub joined_parts : (f : ℕ → List Y) (a m n : ℕ) → flat_map f (range_with_len a (m + n)) ≡ flat_map f (range_with_len a m) ++ flat_map f (range_with_len (a + m) n)
  joined_parts f a m n = ap (flat_map f) (counting_append a m n) ∙ flat_map-append f (range_with_len a m) (range_with_len (a + m) n)

  -- equal lists along two counts
  pub joined_same : (f g : ℕ → List Y) (n a b : ℕ) → ((i : ℕ) → i < n → f (a + i) ≡ g (b + i)) → flat_map f (range_with_len a n) ≡ flat_map g (range_with_len b n)
  joined_same f g zero a b same = refl
  joined_same f g (suc n) a b same =
      let here : f a ≡ g b = ap f (sym (add-zero a)) ∙ same 0 (omega arith) ∙ ap g (add-zero b) in
      ap₂ (λ x y. x ++ y) here (joined_same f g n (a + 1) (b + 1) (λ i l. ap f (later a i) ∙ same (suc i) (omega arith) ∙ ap g (sym (later b i))))
    where
      later : (c i : ℕ) → c + 1 + i ≡ c + suc i
      later c i = omega arith

  -- rows of k, row by row
  pub joined_rows : (g : ℕ → ℕ → List Y) (k : ℕ) (n a : ℕ) → flat_map (λ i. g (i / k) (i % k)) (range_with_len (a * k) (n * k)) ≡ flat_map (λ row. flat_map (g row) (range_with_len 0 k)) (range_with_len a n)
  joined_rows g k zero a = ap (λ m. flat_map (λ i. g (i / k) (i % k)) (range_with_len (a * k) m)) (zero-mul k)
  joined_rows g k (suc n) a =
      let s : suc n * k ≡ k + n * k = omega (arith, suc-mul n k) in
      let t : a * k + k ≡ (a + 1) * k = omega (arith, add-mul a 1 k) in
      let row : flat_map (λ i. g (i / k) (i % k)) (range_with_len (a * k) k) ≡ flat_map (g a) (range_with_len 0 k) =
      joined_same (λ i. g (i / k) (i % k)) (g a) k (a * k) 0 (λ i l. ap₂ g (div-mul-add a k i l) (mod-mul-add a k i l ∙ sym (zero-add i))) in
      ap (λ m. flat_map (λ i. g (i / k) (i % k)) (range_with_len (a * k) m)) s ∙ joined_parts (λ i. g (i / k) (i % k)) (a * k) k (n * k)
      ∙ ap₂ (λ x y. x ++ y) row (ap (λ b. flat_map (λ i. g (i / k) (i % k)) (range_with_len b (n * k))) t ∙ joined_rows g k n (a + 1))

  -- one step of a loop, and its room
  pub joined_more : (f : ℕ → List Y) (i : ℕ) → flat_map f (range_with_len 0 (i + 1)) ≡ flat_map f (range_with_len 0 i) ++ f i
  joined_more f i = joined_parts f 0 i 1 ∙ ap (λ l. flat_map f (range_with_len 0 i) ++ l) (append-nil (f (0 + i)) ∙ ap f (zero-add i))

  pub joined_room : (f : ℕ → List Y) (i n : ℕ) → i < n → length (flat_map f (range_with_len 0 i)) + length (f i) ≤ length (flat_map f (range_with_len 0 n))
  joined_room f i n h =
      let s : i + 1 + (n - (i + 1)) ≡ n = omega arith in
      omega (
        arith,
        length-append (flat_map f (range_with_len 0 i)) (f i),
        ap length (joined_more f i),
        ap length (sym (ap (λ m. flat_map f (range_with_len 0 m)) s) ∙ joined_parts f 0 (i + 1) (n - (i + 1))),
        length-append (flat_map f (range_with_len 0 (i + 1))) (flat_map f (range_with_len (0 + (i + 1)) (n - (i + 1)))),
      )

-- the same along a list
pub joined_take_more : {X Y : Type 0} (f : X → List Y) (xs : List X) (i : ℕ) (d : X) → i < length xs → flat_map f (take (i + 1) xs) ≡ flat_map f (take i xs) ++ f (get_or xs i d)
joined_take_more f xs i d inside = ap (flat_map f) (take_more xs i d inside) ∙ flat_map-append f (take i xs) (get_or xs i d ∷ []) ∙ ap (λ l. flat_map f (take i xs) ++ l) (append-nil (f (get_or xs i d)))

-- joined twice
pub joined_joined : {X Y Z : Type 0} (g : Y → List Z) (f : X → List Y) (xs : List X) → flat_map g (flat_map f xs) ≡ flat_map (λ x. flat_map g (f x)) xs
joined_joined g f [] = refl
joined_joined g f (x ∷ xs) = flat_map-append g (f x) (flat_map f xs) ∙ ap (λ l. flat_map g (f x) ++ l) (joined_joined g f xs)
