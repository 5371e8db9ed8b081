-- The order of plans: of two plans of the same nets one is the earlier, and of the plans that pass a test one is the earliest.
use Rattle.std.proofs.Common.{◌≡◌, ℕ, zero, suc, ◌+◌, ◌<◌, ◌⊎◌, List, [], ◌∷◌, map, sym, refl, ap, ◌∙◌, subst, inl, inr, ⊎_elim, arith}
use Rattle.std.proofs.lemmas.Bool.{cases_eq, cases_order}
use Rattle.std.specs.List.{AllByRecursion}
use Rattle.plans.specs.Plans.{Earlier, Row}
use Rattle.plans.proofs.Elements.{cons_nil, nil_cons}

-- no plan is earlier than one that is earlier than it
pub earlier_asym : (p q : List Row) → Earlier p q → Earlier q p → ⊥
earlier_asym [] q e f = e
earlier_asym (a ∷ p) [] e f = e
earlier_asym (a ∷ p) (b ∷ q) e f =
    ⊎_elim
    (λ l. ⊎_elim (λ m. omega arith) (λ m. omega (arith, m.0)) f.1)
    (λ l. ⊎_elim (λ m. omega (arith, l.0)) (λ m. earlier_asym p q l.1 m.1) f.1)
    e.1

pub earlier_irrefl : (p : List Row) → Earlier p p → ⊥
earlier_irrefl p e = earlier_asym p p e e

pub earlier_trans : (p q s : List Row) → Earlier p q → Earlier q s → Earlier p s
earlier_trans [] q s e f = e
earlier_trans (a ∷ p) [] s e f = absurd e
earlier_trans (a ∷ p) (b ∷ q) [] e f = absurd f
earlier_trans (a ∷ p) (b ∷ q) (c ∷ s) e f = (
  e.0 ∙ f.0,
  ⊎_elim
      (λ l. ⊎_elim (λ m. inl (omega arith)) (λ m. inl (omega (arith, m.0))) f.1)
      (λ l. ⊎_elim (λ m. inl (omega (arith, l.0))) (λ m. inr (l.0 ∙ m.0, earlier_trans p q s l.1 m.1)) f.1)
      e.1,
)

-- two plans of the same nets are equal, or one is the earlier
pub earlier_cases : (p q : List Row) → map (λ row. row.number) p ≡ map (λ row. row.number) q → (p ≡ q) ⊎ (Earlier p q ⊎ Earlier q p)
earlier_cases [] [] e = inl refl
earlier_cases [] (b ∷ q) e = absurd (nil_cons e)
earlier_cases (a ∷ p) [] e = absurd (cons_nil e)
earlier_cases (a ∷ p) (b ∷ q) e =
    let number : a.number ≡ b.number = cc in
    let rest : map (λ row. row.number) p ≡ map (λ row. row.number) q = cc in
    ⊎_elim
    (λ same.
    ⊎_elim
    (λ equal. inl (cons_same a b p q number same equal))
    (λ differ. inr (⊎_elim (λ l. inl (number, inr (same, l))) (λ l. inr (sym number, inr (sym same, l))) differ))
    (earlier_cases p q rest))
    (λ differ. inr (⊎_elim (λ l. inl (number, inl l)) (λ l. inr (sym number, inl l)) differ))
    (cases_order a.fpic b.fpic)
  where
    cons_same : (a b : Row) (p q : List Row) → a.number ≡ b.number → a.fpic ≡ b.fpic → p ≡ q → ◌≡◌ {A = List Row} (a ∷ p) (b ∷ q)
    cons_same a b p q n f e =
        ap (λ x. record { number = x; fpic = a.fpic } ∷ p) n ∙ ap (λ x. record { number = b.number; fpic = x } ∷ p) f ∙ ap (λ x. b ∷ x) e

-- ---- the earliest plan that passes a test

-- a plan of the nets of these numbers, with FPICs below k
abbrev pub Shape : ℕ → List ℕ → List Row → Type 0
Shape k numbers plan = (map (λ row. row.number) plan ≡ numbers) × AllByRecursion (λ row. row.fpic < k) plan

-- P holds of this plan, and every other of which it holds is later
pub record Least (k : ℕ) (numbers : List ℕ) (P : List Row → Type 0) (plan : List Row) : Type 0 where
  pub shape : Shape k numbers plan
  pub holds : P plan
  pub first : (other : List Row) → Shape k numbers other → P other → (other ≡ plan) ⊎ Earlier plan other

abbrev pub Search : ℕ → List ℕ → (List Row → Type 0) → Type 0
Search k numbers P = ((plan : List Row) × Least k numbers P plan) ⊎ ((plan : List Row) → Shape k numbers plan → P plan → ⊥)

abbrev pub Decided : ℕ → List ℕ → (List Row → Type 0) → Type 0
Decided k numbers P = (plan : List Row) → Shape k numbers plan → P plan ⊎ (P plan → ⊥)

abbrev row : ℕ → ℕ → Row
row n t = record { number = n; fpic = t }

-- the head and the tail of a plan with one number more
module _ (k n : ℕ) (ns : List ℕ) (b : Row) (q : List Row) (shape : Shape k (n ∷ ns) (b ∷ q)) where
  head_number : b.number ≡ n
  head_number = let e = shape.0 in cc

  head_row : b ≡ row n b.fpic
  head_row = ap (λ x. row x b.fpic) head_number

  tail_shape : Shape k ns q
  tail_shape = let e = shape.0 in let f : map (λ row. row.number) q ≡ ns = cc in (f, shape.1.1)

module _ (k n : ℕ) (ns : List ℕ) (P : List Row → Type 0) (below : (Q : List Row → Type 0) → Decided k ns Q → Search k ns Q) (decided : Decided k (n ∷ ns) P) where
  -- the least at head a, where no plan with a smaller head has P
  least_at : (a : ℕ) → a < k → ((t : ℕ) → t < a → (q : List Row) → Shape k ns q → P (row n t ∷ q) → ⊥) → (p : List Row) → Least k ns (λ q. P (row n a ∷ q)) p →
      Least k (n ∷ ns) P (row n a ∷ p)
  least_at a small none p l =
      record {
        shape = (ap (λ x. n ∷ x) l.shape.0, (small, l.shape.1));
        holds = l.holds;
        first = first;
      }
    where
      first : (other : List Row) → Shape k (n ∷ ns) other → P other → (other ≡ row n a ∷ p) ⊎ Earlier (row n a ∷ p) other
      first [] s h = absurd (nil_cons s.0)
      first (b ∷ q) s h =
          let is_row = head_row k n ns b q s in
          let at_row : P (row n b.fpic ∷ q) = subst (λ x. P (x ∷ q)) is_row h in
          let rest = tail_shape k n ns b q s in
          ⊎_elim
          (λ same.
          ⊎_elim
          (λ equal. inl (ap (λ x. x ∷ q) is_row ∙ ap (λ t. row n t ∷ q) (sym same) ∙ ap (λ x. row n a ∷ x) equal))
          (λ later. inr (sym (head_number k n ns b q s), inr (same, later)))
          (l.first q rest (subst (λ t. P (row n t ∷ q)) (sym same) at_row)))
          (⊎_elim
          (λ later. inr (sym (head_number k n ns b q s), inl later))
          (λ sooner. absurd (none b.fpic sooner q rest at_row)))
          (cases_order a b.fpic)

  -- the heads from a on, of which j are left
  least_from : (j a : ℕ) → a + j ≡ k → ((t : ℕ) → t < a → (q : List Row) → Shape k ns q → P (row n t ∷ q) → ⊥) → Search k (n ∷ ns) P
  least_from zero a e none = inr no_plan
    where
      no_plan : (plan : List Row) → Shape k (n ∷ ns) plan → P plan → ⊥
      no_plan [] s h = nil_cons s.0
      no_plan (b ∷ q) s h = none b.fpic (omega (arith, s.1.0)) q (tail_shape k n ns b q s) (subst (λ x. P (x ∷ q)) (head_row k n ns b q s) h)
  least_from (suc j) a e none =
      ⊎_elim
      (λ found. inl (row n a ∷ found.0, least_at a (omega arith) none found.0 found.1))
      (λ nowhere.
      least_from j (a + 1) (omega arith)
      (λ t l q s h.
      ⊎_elim
      (λ same. nowhere q s (subst (λ x. P (row n x ∷ q)) same h))
      (λ other. none t (omega arith) q s h)
      (cases_eq t a)))
      (below (λ q. P (row n a ∷ q)) (λ q s. decided (row n a ∷ q) (ap (λ x. n ∷ x) s.0, (omega arith, s.1))))

pub least : (k : ℕ) (numbers : List ℕ) (P : List Row → Type 0) → Decided k numbers P → Search k numbers P
least k [] P decided = ⊎_elim (λ h. inl ([], record { shape = (refl, tt); holds = h; first = first h })) (λ no_plan. inr (nothing no_plan)) (decided [] (refl, tt))
  where
    first : P [] → (other : List Row) → Shape k [] other → P other → (other ≡ []) ⊎ Earlier [] other
    first h [] s p = inl refl
    first h (b ∷ q) s p = absurd (cons_nil s.0)

    nothing : (P [] → ⊥) → (plan : List Row) → Shape k [] plan → P plan → ⊥
    nothing h [] s p = h p
    nothing h (b ∷ q) s p = cons_nil s.0
least k (n ∷ ns) P decided = least_from k n ns P (least k ns) decided k 0 (omega arith) (λ t l q s h. omega arith)
