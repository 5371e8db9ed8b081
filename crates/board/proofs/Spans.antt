-- The numbers that an inclusive range of unsigned numbers yields.
use Rattle.std.proofs.Common.{◌≡◌, ℕ, ◌+◌, ◌-◌, Bool, true, false, List, ◌∷◌, length, Some, None, refl, sym, ap, ap₂, subst, ◌∙◌, add-one, arith}
use Rattle.std.proofs.lemmas.Iterator.{YieldsList}
use Rattle.std.proofs.lemmas.Iterator.Consumers.{YieldsList-from_shown}
use Rattle.std.proofs.lemmas.List.FromFn.{length-range_with_len}
use Rattle.std.specs.List.{range_with_len}
use Rattle.std.specs.Range.{range_inclusive_len, range_inclusive_start, range_inclusive_end, range_inclusive_exhausted, range_inclusive_left, range_inclusive_steps}
use Rattle.std.specs.declared.ops.RangeInclusive.{RangeInclusive}

turned : (a b n : ℕ) (spent : Bool) → (spent ≡ true → n ≡ 0) → (spent ≡ false → b ≡ a + 1) → range_with_len (a + 1) n ≡ range_with_len b n
turned a b n true none next = ap (range_with_len (a + 1)) (none refl) ∙ sym (ap (range_with_len b) (none refl))
turned a b n false none next = ap (λ k. range_with_len k n) (sym (next refl))

module _ (gap : ℕ → ℕ → ℕ) (follows : ℕ → ℕ → Type 0) (gaps : (a b : ℕ) → gap a b ≡ b - a) (next : (a b : ℕ) → follows a b → b ≡ a + 1) where
  abbrev shown : RangeInclusive ℕ → List ℕ
  shown s = range_with_len (range_inclusive_start s) (range_inclusive_left gap s)

  stop : (s t : RangeInclusive ℕ) → range_inclusive_steps gap follows s None t → length (shown s) ≡ 0
  stop s t h = length-range_with_len (range_inclusive_start s) (range_inclusive_left gap s) ∙ h.1.0

  go : (s : RangeInclusive ℕ) (x : ℕ) (t : RangeInclusive ℕ) → range_inclusive_steps gap follows s (Some x) t → shown s ≡ x ∷ shown t
  go s x t h =
      let left = range_inclusive_left gap t in
      let first : shown s ≡ range_inclusive_start s ∷ range_with_len (range_inclusive_start s + 1) left = ap (range_with_len (range_inclusive_start s)) (sym h.1.1 ∙ add-one left) in
      let others : range_with_len (range_inclusive_start s + 1) left ≡ shown t =
      turned (range_inclusive_start s) (range_inclusive_start t) left (range_inclusive_exhausted t)
      (λ e. ap (range_inclusive_len gap (range_inclusive_start t) (range_inclusive_end t)) e) (λ e. next (range_inclusive_start s) (range_inclusive_start t) (h.1.2 e)) in
      first ∙ ap₂ (λ (y : ℕ) (ys : List ℕ). y ∷ ys) (sym h.1.0) others

  -- the range from a to b has the b + 1 - a numbers from a on
  pub YieldsList-from_inclusive : {s : RangeInclusive ℕ} (a b n : ℕ) → range_inclusive_start s ≡ a → range_inclusive_end s ≡ b → range_inclusive_exhausted s ≡ false → b + 1 - a ≡ n →
      YieldsList (range_inclusive_steps gap follows) (λ x. x) s (range_with_len a n)
  YieldsList-from_inclusive {s} a b n low high unspent e =
      let left : range_inclusive_left gap s ≡ n =
      ap (range_inclusive_len gap (range_inclusive_start s) (range_inclusive_end s)) unspent ∙ omega (arith, gaps (range_inclusive_start s) (range_inclusive_end s), gaps (range_inclusive_end s) (range_inclusive_start s)) in
      subst (λ ys. YieldsList (range_inclusive_steps gap follows) (λ x. x) s ys) (ap₂ range_with_len low left)
      (YieldsList-from_shown (range_inclusive_steps gap follows) (λ x. x) shown stop go s)
