-- Bytes 0 and 1 as a number: the number after it, and the one list of a length that writes it.
use Rattle.std.proofs.Common.{◌≡◌, ℕ, zero, suc, ◌+◌, ◌-◌, ◌^◌, ◌<◌, ◌≤◌, true, false, List, [], ◌∷◌, ◌++◌, length, get_or, take, drop, set, replicate, ℤ, sym, refl, ap, ◌∙◌, subst, ⊎_elim, pow-suc, arith}
use Rattle.std.specs.List.{AllByRecursion}
use Rattle.std.proofs.lemmas.List.{set_split, at_drop_more}
use Rattle.std.proofs.lemmas.Bool.{both_ways, cases_lt}
use Rattle.sat.specs.Question.{Models}
use Rattle.odometer.specs.Candidate.{answers_all}
use Rattle.odometer.specs.Counter.{value, has_zero, next}
use Rattle.odometer.proofs.Clauses.{answers_from_models}

abbrev pub Bits : List ℕ → Type 0
Bits = AllByRecursion (λ byte. byte ≤ 1)

pub bits_zeros : (n : ℕ) → Bits (replicate n 0)
bits_zeros zero = tt
bits_zeros (suc n) = (omega arith, bits_zeros n)

pub value_zeros : (n : ℕ) → value (replicate n 0) ≡ 0
value_zeros zero = refl
value_zeros (suc n) = let h = value_zeros n in omega arith

pub length-next : (bytes : List ℕ) → length (next bytes) ≡ length bytes
length-next [] = refl
length-next (zero ∷ bytes) = refl
length-next (suc b ∷ bytes) = ap suc (length-next bytes)

pub bits_next : (bytes : List ℕ) → Bits bytes → Bits (next bytes)
bits_next [] h = tt
bits_next (zero ∷ bytes) h = (omega arith, h.1)
bits_next (suc b ∷ bytes) h = (omega arith, bits_next bytes h.1)

pub value-next : (bytes : List ℕ) → Bits bytes → has_zero bytes ≡ true → value (next bytes) ≡ value bytes + 1
value-next [] h z = absurd (both_ways false refl z)
value-next (zero ∷ bytes) h z = omega arith
value-next (suc b ∷ bytes) h z = let k = value-next bytes h.1 z in let o = h.0 in omega arith

-- where all bytes are 1, it is the last number, and zeros follow
pub value_last : (bytes : List ℕ) → Bits bytes → has_zero bytes ≡ false → value bytes + 1 ≡ 2 ^ length bytes
value_last [] h z = refl
value_last (zero ∷ bytes) h z = absurd (both_ways true z refl)
value_last (suc b ∷ bytes) h z =
    let k = value_last bytes h.1 z in
    let o = h.0 in
    omega (arith, pow-suc 2 (length bytes))

pub next_last : (bytes : List ℕ) → has_zero bytes ≡ false → next bytes ≡ replicate (length bytes) 0
next_last [] z = refl
next_last (zero ∷ bytes) z = absurd (both_ways true z refl)
next_last (suc b ∷ bytes) z = ap (λ bs. 0 ∷ bs) (next_last bytes z)

pub value_below : (bytes : List ℕ) → Bits bytes → value bytes < 2 ^ length bytes
value_below [] h = omega arith
value_below (b ∷ bytes) h =
    let k = value_below bytes h.1 in
    let o = h.0 in
    omega (arith, pow-suc 2 (length bytes))

pub value_same : (xs ys : List ℕ) → Bits xs → Bits ys → length xs ≡ length ys → value xs ≡ value ys → xs ≡ ys
value_same [] [] h k l e = refl
value_same [] (y ∷ ys) h k l e = absurd (omega arith)
value_same (x ∷ xs) [] h k l e = absurd (omega arith)
value_same (x ∷ xs) (y ∷ ys) h k l e =
    let p = h.0 in
    let q = k.0 in
    let first : x ≡ y = omega arith in
    let rest : xs ≡ ys = value_same xs ys h.1 k.1 (omega arith) (omega arith) in
    cc

-- the loop that counts one further: what was a 1 has become 0, and the rest is still to be done
at_zero : {Y : Type 0} (F : List ℕ → Y) (byte : ℕ) (bytes : List ℕ) → byte ≡ 0 → F (byte ∷ bytes) ≡ F (0 ∷ bytes)
at_zero F byte bytes e = ap (λ b. F (b ∷ bytes)) e

module _ (bytes : List ℕ) (i : ℕ) (h : i < length bytes) where
  pub next_stops : get_or bytes i 0 ≡ 0 → set bytes i 1 ≡ take i bytes ++ next (drop i bytes)
  next_stops e =
      let s = at_drop_more next bytes i 0 h in
      let t = at_zero next (get_or bytes i 0) (drop (i + 1) bytes) e in
      let u = set_split bytes i 1 h in
      let w : suc i ≡ i + 1 = omega arith in
      cc

-- where the count stands at these bytes: each is 0 or 1, and no valuation that writes a smaller number answers the question
pub record Tried (formula assumed : List ℤ) (bytes : List ℕ) : Type 0 where
  pub bits : Bits bytes
  pub below : (values : List ℕ) → Models (length bytes) formula assumed values → value values < value bytes → ⊥

-- the loop begins with zeros
pub tried_zeros : (formula assumed : List ℤ) (bytes : List ℕ) (n : ℕ) → bytes ≡ replicate n 0 → Tried formula assumed bytes
tried_zeros formula assumed bytes n e = record {
  bits = subst Bits (sym e) (bits_zeros n);
  below = λ values m h. let z : value bytes ≡ 0 = ap value e ∙ value_zeros n in omega arith;
}

module _ (formula assumed : List ℤ) (bytes : List ℕ) (tried : Tried formula assumed bytes) (fails : answers_all bytes formula assumed ≡ false) where
  -- the bytes themselves are no answer either
  up_to : (values : List ℕ) → Models (length bytes) formula assumed values → value values < value bytes + 1 → ⊥
  up_to values m h =
      let sizes = m.size in
      ⊎_elim
      (λ less. tried.below values m less)
      (λ same.
      let e : values ≡ bytes = value_same values bytes m.bits tried.bits sizes (omega arith) in
      let a = answers_from_models (length bytes) formula assumed values m in
      both_ways (answers_all bytes formula assumed) fails (rw e at a))
      (cases_lt (value values) (value bytes))

  -- it goes on to the next number
  module _ (further : List ℕ) (moves : further ≡ next bytes) (more : has_zero bytes ≡ true) where
    further_value : value further ≡ value bytes + 1
    further_value = ap value moves ∙ value-next bytes tried.bits more

    further_length : length further ≡ length bytes
    further_length = ap length moves ∙ length-next bytes

    pub tried_next : Tried formula assumed further
    tried_next = record {
      bits = subst Bits (sym moves) (bits_next bytes tried.bits);
      below = λ values m h. up_to values (subst (λ n. Models n formula assumed values) further_length m) (let e = further_value in omega arith);
    }

    pub falls : 2 ^ length further - value further < 2 ^ length bytes - value bytes
    falls =
        let e : 2 ^ length further ≡ 2 ^ length bytes = ap (λ n. 2 ^ n) further_length in
        let f = further_value in
        let b = value_below bytes tried.bits in
        omega arith

  -- it ends where no number is left
  pub none_left : has_zero bytes ≡ false → (values : List ℕ) → Models (length bytes) formula assumed values → ⊥
  none_left last values m =
      let top : value bytes + 1 ≡ 2 ^ length bytes = value_last bytes tried.bits last in
      let below : value values < 2 ^ length values = value_below values m.bits in
      let same : 2 ^ length values ≡ 2 ^ length bytes = ap (λ n. 2 ^ n) m.size in
      up_to values m (omega arith)
