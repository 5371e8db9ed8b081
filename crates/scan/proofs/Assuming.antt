-- Literals assumed in turn: along a loop, and what comes of it.
use Rattle.std.proofs.Common.{◌≡◌, ℕ, ◌+◌, ◌<◌, ◌≤◌, Bool, true, false, List, [], ◌∷◌, length, get_or, drop, ℤ, pos, sym, refl, ap, ◌∙◌, arith}
use Rattle.std.proofs.lemmas.List.{at_drop_more, at_drop_all}
use Rattle.std.specs.List.{AllByRecursion}
use Rattle.std.proofs.lemmas.Bool.{both_ways, false≢true}
use Rattle.sat.specs.Formula.{variable, is_zero, is_true}
use Rattle.scan.specs.Values.{by_value, truth, reads, Agrees}
use Rattle.scan.specs.Edits.{assigned, assumed, unopposed}
use Rattle.scan.specs.declared.value.Value.{Value}
use Rattle.scan.specs.declared.value.Value.TheVariants.{Open, True, False}
use Rattle.scan.specs.declared.values.TheConstants.{LARGEST}
use Rattle.scan.specs.declared.values.Values.{Values}
use Rattle.scan.proofs.Agreement.{agrees_assign, agrees_false}
use Rattle.scan.proofs.Literals.{Names, slot_open, set_keeps, assign_true}

-- what assuming a list comes to: whether none is false, and the values then
abbrev pub outcome : Values → List ℤ → Bool × Values
outcome values zs = (unopposed values zs, assumed values zs)

module _ (values : Values) (zs : List ℤ) (i : ℕ) where
  -- one literal more, by what it is
  module _ (h : i < length zs) where
    outcome_more : (v : Value) → reads values.slots (get_or zs i (pos 0)) ≡ v →
        outcome values (drop i zs)
        ≡ (by_value v (unopposed (assigned values (get_or zs i (pos 0))) (drop (i + 1) zs)) (unopposed values (drop (i + 1) zs)) false, by_value v (assumed (assigned values (get_or zs i (pos 0))) (drop (i + 1) zs)) (assumed values (drop (i + 1) zs)) values)
    outcome_more v e =
        at_drop_more (outcome values) zs i (pos 0) h
        ∙ ap (λ (w : Value). (by_value w (unopposed (assigned values (get_or zs i (pos 0))) (drop (i + 1) zs)) (unopposed values (drop (i + 1) zs)) false, by_value w (assumed (assigned values (get_or zs i (pos 0))) (drop (i + 1) zs)) (assumed values (drop (i + 1) zs)) values)) e

    pub outcome_open : reads values.slots (get_or zs i (pos 0)) ≡ Open → outcome (assigned values (get_or zs i (pos 0))) (drop (i + 1) zs) ≡ outcome values (drop i zs)
    outcome_open e = sym (outcome_more Open e)

    pub outcome_true : reads values.slots (get_or zs i (pos 0)) ≡ True → outcome values (drop (i + 1) zs) ≡ outcome values (drop i zs)
    outcome_true e = sym (outcome_more True e)

    pub outcome_false : reads values.slots (get_or zs i (pos 0)) ≡ False → (false, values) ≡ outcome values (drop i zs)
    outcome_false e = sym (outcome_more False e)

  -- none is left
  pub outcome_end : length zs ≤ i → (true, values) ≡ outcome values (drop i zs)
  outcome_end h = sym (at_drop_all (outcome values) zs i h)

-- a valuation in which every literal of the list is true still agrees
pub assumed_agrees : (values : Values) (zs : List ℤ) (m : List ℕ) → AllByRecursion (λ z. is_true m z ≡ true) zs → Agrees values.slots m → Agrees (assumed values zs).slots m
assumed_agrees values [] m t a = a
assumed_agrees values (z ∷ zs) m t a =
    elim (reads values.slots z) as (λ v. Agrees (by_value v (assumed (assigned values z) zs) (assumed values zs) values).slots m)
    [ Open ↦ assumed_agrees (assigned values z) zs m t.1 (agrees_assign values.slots m z a t.0) | True ↦ assumed_agrees values zs m t.1 a | False ↦ a ]

opposed_by : (values : Values) (z : ℤ) (zs : List ℤ) (m : List ℕ) (v : Value) → reads values.slots z ≡ v → AllByRecursion (λ y. is_true m y ≡ true) (z ∷ zs) → Agrees values.slots m →
    (Agrees (assigned values z).slots m → unopposed (assigned values z) zs ≡ true) → unopposed values zs ≡ true → by_value v (unopposed (assigned values z) zs) (unopposed values zs) false ≡ true
opposed_by values z zs m Open r t a o h = o (agrees_assign values.slots m z a t.0)
opposed_by values z zs m True r t a o h = h
opposed_by values z zs m False r t a o h = absurd (both_ways (is_true m z) (agrees_false values.slots m a z r) t.0)

-- literals that are all true in a valuation that agrees are not opposed
pub agrees_unopposed : (values : Values) (zs : List ℤ) (m : List ℕ) → AllByRecursion (λ z. is_true m z ≡ true) zs → Agrees values.slots m → unopposed values zs ≡ true
agrees_unopposed values [] m t a = refl
agrees_unopposed values (z ∷ zs) m t a =
    opposed_by values z zs m (reads values.slots z) refl t a (agrees_unopposed (assigned values z) zs m t.1) (agrees_unopposed values zs m t.1 a)

keeps_by : (values : Values) (z y : ℤ) (zs : List ℤ) (v : Value) → reads values.slots z ≡ v → is_zero z ≡ false → reads values.slots y ≡ True →
    (reads (assigned values z).slots y ≡ True → reads (assumed (assigned values z) zs).slots y ≡ True) → reads (assumed values zs).slots y ≡ True →
    reads (by_value v (assumed (assigned values z) zs) (assumed values zs) values).slots y ≡ True
keeps_by values z y zs Open r n t o h = o (set_keeps values.slots (variable z) (truth z) y (slot_open values.slots z n r) t)
keeps_by values z y zs True r n t o h = h
keeps_by values z y zs False r n t o h = t

-- a true literal stays true
assumed_keeps : (values : Values) (zs : List ℤ) (y : ℤ) → AllByRecursion (Names LARGEST) zs → reads values.slots y ≡ True → reads (assumed values zs).slots y ≡ True
assumed_keeps values [] y h t = t
assumed_keeps values (z ∷ zs) y h t =
    keeps_by values z y zs (reads values.slots z) refl h.0.0 t (assumed_keeps (assigned values z) zs y h.1) (assumed_keeps values zs y h.1 t)

true_by : (values : Values) (z : ℤ) (zs : List ℤ) (v : Value) → reads values.slots z ≡ v → AllByRecursion (Names LARGEST) (z ∷ zs) → by_value v (unopposed (assigned values z) zs) (unopposed values zs) false ≡ true →
    (unopposed (assigned values z) zs ≡ true → AllByRecursion (λ y. reads (assumed (assigned values z) zs).slots y ≡ True) zs) → (unopposed values zs ≡ true → AllByRecursion (λ y. reads (assumed values zs).slots y ≡ True) zs) →
    AllByRecursion (λ y. reads (by_value v (assumed (assigned values z) zs) (assumed values zs) values).slots y ≡ True) (z ∷ zs)
true_by values z zs Open r h u o t =
    (assumed_keeps (assigned values z) zs z h.1 (assign_true values.slots z h.0.0 (omega (arith, h.0.1, values.long))), o u)
true_by values z zs True r h u o t = (assumed_keeps values zs z h.1 r, t u)
true_by values z zs False r h u o t = absurd (false≢true u)

-- literals that are not opposed are true in the end
pub unopposed-true : (values : Values) (zs : List ℤ) → AllByRecursion (Names LARGEST) zs → unopposed values zs ≡ true → AllByRecursion (λ z. reads (assumed values zs).slots z ≡ True) zs
unopposed-true values [] h u = tt
unopposed-true values (z ∷ zs) h u =
    true_by values z zs (reads values.slots z) refl h u (unopposed-true (assigned values z) zs h.1) (unopposed-true values zs h.1)
