-- The numbers of the sets of so many literals, set by set.
use Rattle.std.proofs.Common.{◌≡◌, ℕ, zero, suc, ◌-◌, ◌<◌, List, [], ◌∷◌, ◌++◌, map, length, get_or, take, ℤ, pos, sym, refl, ap, ◌∙◌, ap₂, arith}
use mathlib.Core.List.{map-map}
use Rattle.std.proofs.lemmas.List.{append_assoc, append-nil, length_push, map-append, map-id, take_at}
use Rattle.std.proofs.lemmas.List.FromFn.{fill_by_all}
use Rattle.std.proofs.lemmas.Slice.{between_to_end}
use Rattle.std.specs.List.{between, flat_map, range_with_len}
use Rattle.sat.specs.Formula.{encode}
use Rattle.subsets.specs.Choose.{choose}
use Rattle.clauses.specs.Sets.{set_numbers}

-- the formula of two lists of clauses
pub encode_append : (xs ys : List (List ℤ)) → encode (xs ++ ys) ≡ encode xs ++ encode ys
encode_append [] ys = refl
encode_append (x ∷ xs) ys = ap (λ l. x ++ (pos 0 ∷ l)) (encode_append xs ys) ∙ sym (append_assoc x (pos 0 ∷ encode xs) (encode ys))

-- a list has no sublists that are longer than itself
pub choose_short : {X : Type 0} (s : ℕ) (xs : List X) → length xs < s → choose s xs ≡ []
unfolding choose
choose_short zero xs h = absurd (omega arith)
choose_short (suc s) [] h = refl
choose_short (suc s) (x ∷ xs) h =
    ap (λ l. map (λ ys. x ∷ ys) l ++ choose (suc s) xs) (choose_short s xs (omega arith)) ∙ choose_short (suc s) xs (omega arith)

-- sets of no literal: the front alone
pub sets_none : (front : List ℤ) (size : ℕ) (literals : List ℤ) → size ≡ 0 → set_numbers front size literals ≡ front ++ (pos 0 ∷ [])
unfolding set_numbers choose
sets_none front size literals e = ap (λ n. set_numbers front n literals) e ∙ ap (λ l. l ++ (pos 0 ∷ [])) (append-nil front)

-- too few literals
pub sets_short : (front : List ℤ) (size : ℕ) (literals : List ℤ) → length literals < size → set_numbers front size literals ≡ []
unfolding set_numbers
sets_short front size literals h = ap (λ l. encode (map (λ set. front ++ set) l)) (choose_short size literals h)

-- first the sets with the first literal, then those without it
pub sets_step : (front : List ℤ) (size : ℕ) (z : ℤ) (literals : List ℤ) →
    set_numbers front (suc size) (z ∷ literals) ≡ set_numbers (front ++ (z ∷ [])) size literals ++ set_numbers front (suc size) literals
unfolding set_numbers choose
sets_step front size z literals = simp (map-append, map-map, encode_append, append_assoc)

pub sets_split : (front : List ℤ) (size : ℕ) (literals : List ℤ) → 0 < size → 0 < length literals →
    set_numbers front size literals ≡ set_numbers (front ++ (get_or literals 0 (pos 0) ∷ [])) (size - 1) (between 1 (length literals) literals) ++ set_numbers front size (between 1 (length literals) literals)
sets_split front (suc size) (z ∷ literals) h l =
    let s : suc size - 1 ≡ size = omega arith in
    let rest : between 1 (length (z ∷ literals)) (z ∷ literals) ≡ literals = between_to_end (z ∷ literals) 1 (length (z ∷ literals)) (omega arith) in
    cc (sets_step front size z literals)
sets_split front (suc size) [] h l = absurd (omega arith)
sets_split front zero literals h l = absurd (omega arith)

-- a list is its only sublist of its own length
pub choose_all : {X : Type 0} (s : ℕ) (xs : List X) → s ≡ length xs → choose s xs ≡ xs ∷ []
unfolding choose
choose_all zero [] e = refl
choose_all zero (x ∷ xs) e = absurd (omega arith)
choose_all (suc s) [] e = absurd (omega arith)
choose_all (suc s) (x ∷ xs) e =
    let s≡ : s ≡ length xs = omega arith in
    ap₂ (λ a b. map (λ ys. x ∷ ys) a ++ b) (choose_all s xs s≡) (choose_short (suc s) xs (omega arith))

-- the whole clauses
pub sets_whole : (size : ℕ) (literals : List ℤ) → set_numbers [] size literals ≡ encode (choose size literals)
unfolding set_numbers
sets_whole size literals = ap encode (map-id (choose size literals))

-- the formula of joined clauses
pub encode_joined : {X : Type 0} (f : X → List (List ℤ)) (xs : List X) → encode (flat_map f xs) ≡ flat_map (λ x. encode (f x)) xs
encode_joined f [] = refl
encode_joined f (x ∷ xs) = encode_append (f x) (flat_map f xs) ∙ ap (λ l. encode (f x) ++ l) (encode_joined f xs)

-- a list that has at each index what a function gives of another list's element there
pub mapped_by_index : (f : ℕ → ℤ) (xs : List ℕ) (zs : List ℤ) → length zs ≡ length xs → ((i : ℕ) → i < length xs → get_or zs i (pos 0) ≡ f (get_or xs i 0)) → zs ≡ map f xs
mapped_by_index f [] [] e same = refl
mapped_by_index f [] (z ∷ zs) e same = absurd (omega arith)
mapped_by_index f (x ∷ xs) [] e same = absurd (omega arith)
mapped_by_index f (x ∷ xs) (z ∷ zs) e same = ap₂ (λ a b. a ∷ b) (same 0 (omega arith)) (mapped_by_index f xs zs (omega arith) (λ i h. same (suc i) (omega arith)))

-- the values of f at each number from 0 on
pub filled : (f : ℕ → ℤ) (zs : List ℤ) (n k : ℕ) → n ≡ k → length zs ≡ n → ((i : ℕ) → i < n → get_or zs i (pos 0) ≡ f i) → zs ≡ map f (range_with_len 0 k)
filled f zs n k e long same = fill_by_all f zs n (pos 0) long same ∙ ap (λ m. map f (range_with_len 0 m)) e

-- a list without the element that was put behind it
pub popped : (front grown : List ℤ) (z : ℤ) → grown ≡ front ++ (z ∷ []) → take (length grown - 1) grown ≡ front
popped front grown z e = ap (take (length grown - 1)) e ∙ take_at front (z ∷ []) (length grown - 1) (omega (arith, ap length e, length_push front z))
