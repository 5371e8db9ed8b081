-- Walking the chips of a set from the lowest: the set's trailing zeros lead to it, and `n & (n - 1)` leaves the others.
use Rattle.std.proofs.Common.{◌≡◌, ℕ, zero, suc, ◌+◌, ◌-◌, ◌*◌, ◌/◌, ◌%◌, ◌^◌, ◌<◌, min, cond, eqb, ◌⊎◌, List, [], ◌∷◌, filter, sym, refl, ap, ◌∙◌, ap₂, inl, inr, ⊎_elim, add_comm, pow-suc, add-one, arith, shr-shr}
use lib.Bits.{bit_and, and_step, and_self}
use lib.Count.{count_trailing_zeros, under}
use Rattle.std.specs.List.{range_with_len}
use Rattle.std.proofs.lemmas.Bool.{cases_lt}
use Rattle.board.specs.Rows.{chips_of, has_end}

odd_rest : (n : ℕ) → n % 2 ≡ 1 → bit_and n (n - 1) ≡ n / 2 * 2
odd_rest n e =
    let h : (n - 1) / 2 ≡ n / 2 = omega arith in
    let p : (n - 1) % 2 ≡ 0 = omega arith in
    let s : bit_and n (n - 1) ≡ bit_and (n / 2) (n / 2) * 2 + min (n % 2) 0 = and_step n (n - 1) ∙ ap₂ (λ (x y : ℕ). bit_and (n / 2) x * 2 + min (n % 2) y) h p in
    let t : bit_and (n / 2) (n / 2) ≡ n / 2 = and_self (n / 2) in
    omega (arith, s ∙ ap (λ x. x * 2 + min (n % 2) 0) t)

even_rest : (n : ℕ) → 0 < n → n % 2 ≡ 0 → bit_and n (n - 1) ≡ bit_and (n / 2) (n / 2 - 1) * 2
even_rest n l e =
    let h : (n - 1) / 2 ≡ n / 2 - 1 = omega arith in
    let s : bit_and n (n - 1) ≡ bit_and (n / 2) (n / 2 - 1) * 2 + min 0 ((n - 1) % 2) = and_step n (n - 1) ∙ ap₂ (λ (x y : ℕ). bit_and (n / 2) x * 2 + min y ((n - 1) % 2)) h e in
    omega (arith, s)

parity : (n : ℕ) → (n % 2 ≡ 0) ⊎ (n % 2 ≡ 1)
parity n = ⊎_elim (λ l. inl (omega arith)) (λ l. inr (omega arith)) (cases_lt (n % 2) 1)

-- the chips of the set n, read from its lowest bit over w bits, the lowest bit standing for the chip `first`
unfoldable pub walk : ℕ → ℕ → ℕ → List ℕ
walk zero first n = []
walk (suc w) first n = cond (eqb (n % 2) 1) (first ∷ walk w (suc first) (n / 2)) (walk w (suc first) (n / 2))

walk_even : (w first x : ℕ) → walk (suc w) first (x * 2) ≡ walk w (suc first) x
unfolding walk
walk_even w first x =
    let h : x * 2 / 2 ≡ x = omega arith in
    let p : x * 2 % 2 ≡ 0 = omega arith in
    ap₂ (λ (b m : ℕ). cond (eqb b 1) (first ∷ walk w (suc first) m) (walk w (suc first) m)) p h

cons_both : {x y : ℕ} {xs ys : List ℕ} → x ≡ y → xs ≡ ys → x ∷ xs ≡ y ∷ ys
cons_both e t = cc

-- the trailing zeros count the chips below the lowest in the set; without that chip the set is n & (n - 1)
abbrev Splits : ℕ → ℕ → ℕ → Type 0
Splits w first n = walk w first n ≡ (first + count_trailing_zeros w n) ∷ walk w first (bit_and n (n - 1))

splits_odd : (w first n : ℕ) → n % 2 ≡ 1 → Splits (suc w) first n
unfolding walk count_trailing_zeros
splits_odd w first n e =
    let z : count_trailing_zeros (suc w) n ≡ 0 = ap (λ b. under b (count_trailing_zeros w (n / 2))) e in
    let at : first + count_trailing_zeros (suc w) n ≡ first = omega arith in
    let here : walk (suc w) first n ≡ first ∷ walk w (suc first) (n / 2) = ap (λ b. cond (eqb b 1) (first ∷ walk w (suc first) (n / 2)) (walk w (suc first) (n / 2))) e in
    let rest : walk (suc w) first (bit_and n (n - 1)) ≡ walk w (suc first) (n / 2) = ap (walk (suc w) first) (odd_rest n e) ∙ walk_even w first (n / 2) in
    here ∙ sym (cons_both at rest)

splits_even : (w first n : ℕ) → 0 < n → n % 2 ≡ 0 → Splits w (suc first) (n / 2) → Splits (suc w) first n
unfolding walk count_trailing_zeros
splits_even w first n l e s =
    let z : count_trailing_zeros (suc w) n ≡ suc (count_trailing_zeros w (n / 2)) = ap (λ b. under b (count_trailing_zeros w (n / 2))) e in
    let at : first + count_trailing_zeros (suc w) n ≡ suc first + count_trailing_zeros w (n / 2) = omega arith in
    let here : walk (suc w) first n ≡ walk w (suc first) (n / 2) = ap (λ b. cond (eqb b 1) (first ∷ walk w (suc first) (n / 2)) (walk w (suc first) (n / 2))) e in
    let rest : walk (suc w) first (bit_and n (n - 1)) ≡ walk w (suc first) (bit_and (n / 2) (n / 2 - 1)) = ap (walk (suc w) first) (even_rest n l e) ∙ walk_even w first (bit_and (n / 2) (n / 2 - 1)) in
    here ∙ s ∙ sym (cons_both at rest)

splits : (w first n : ℕ) → 0 < n → n < 2 ^ w → Splits w first n
splits zero first n l h = absurd (omega arith)
splits (suc w) first n l h =
    let small : n / 2 < 2 ^ w = (let p : 2 ^ suc w ≡ 2 ^ w * 2 = pow-suc 2 w in omega arith) in
    ⊎_elim (λ e. splits_even w first n l e (splits w (suc first) (n / 2) (omega arith) small)) (splits_odd w first n) (parity n)

-- the chips from j + 1 on
from : (w j ends : ℕ) → filter (has_end ends) (range_with_len (suc j) w) ≡ walk w (suc j) (ends / 2 ^ j)
unfolding walk has_end
from zero j ends = refl
from (suc w) j ends =
    let next : ends / 2 ^ suc j ≡ ends / 2 ^ j / 2 = sym (shr-shr ends j 1 ∙ ap (λ x. ends / 2 ^ x) (add-one j)) in
    let tail : filter (has_end ends) (range_with_len (suc j + 1) w) ≡ walk w (suc (suc j)) (ends / 2 ^ j / 2) =
    ap (λ x. filter (has_end ends) (range_with_len x w)) (add-one (suc j)) ∙ from w (suc j) ends ∙ ap (walk w (suc (suc j))) next in
    ap (λ t. cond (eqb (ends / 2 ^ j % 2) 1) (suc j ∷ t) t) tail

-- what the walk over all 32 bits gives
from_one : (ends : ℕ) → chips_of ends ≡ walk 32 1 ends
unfolding chips_of
from_one ends = from 32 0 ends ∙ ap (walk 32 1) (omega arith)

-- an empty set has no chips
pub chips_of-zero : chips_of 0 ≡ []
unfolding walk
chips_of-zero = from_one 0

-- the lowest chip of a set, and the chips of the set without it
pub chips_of_more : (n : ℕ) → 0 < n → n < 2 ^ 32 → chips_of n ≡ (count_trailing_zeros 32 n + 1) ∷ chips_of (bit_and n (n - 1))
chips_of_more n l h = from_one n ∙ splits 32 1 n l h ∙ cons_both (add_comm 1 (count_trailing_zeros 32 n)) (sym (from_one (bit_and n (n - 1))))
