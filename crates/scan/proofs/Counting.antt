-- How many slots are open: a change of one slot changes it by one.
use Rattle.std.proofs.Common.{◌≡◌, ℕ, zero, suc, ◌+◌, ◌<◌, ◌≤◌, List, [], ◌∷◌, length, get_or, set, sym, refl, arith}
use Rattle.scan.specs.Values.{by_value, opens}
use Rattle.scan.specs.declared.value.Value.{Value}
use Rattle.scan.specs.declared.value.Value.TheVariants.{Open, True, False}

pub opens_bound : (values : List Value) → opens values ≤ length values
opens_bound [] = omega arith
opens_bound (Open ∷ values) = let h : opens values ≤ length values = opens_bound values in omega arith
opens_bound (True ∷ values) = let h : opens values ≤ length values = opens_bound values in omega arith
opens_bound (False ∷ values) = let h : opens values ≤ length values = opens_bound values in omega arith

closes : (v w : Value) → v ≡ Open → (w ≡ Open → ⊥) → (n : ℕ) → by_value w 1 0 0 + n + 1 ≡ by_value v 1 0 0 + n
closes Open Open e c n = absurd (c refl)
closes Open True e c n = omega arith
closes Open False e c n = omega arith
closes True w e c n = cc
closes False w e c n = cc

-- an open slot is closed
pub opens_close : (values : List Value) (k : ℕ) (w : Value) → k < length values → get_or values k Open ≡ Open → (w ≡ Open → ⊥) → opens (set values k w) + 1 ≡ opens values
opens_close [] k w h e c = absurd (omega arith)
opens_close (v ∷ values) zero w h e c = closes v w e c (opens values)
opens_close (v ∷ values) (suc k) w h e c = let r : opens (set values k w) + 1 ≡ opens values = opens_close values k w (omega arith) e c in omega arith

-- a closed slot is opened
pub opens_open : (values : List Value) (k : ℕ) → k < length values → (get_or values k Open ≡ Open → ⊥) → opens (set values k Open) ≡ opens values + 1
opens_open [] k h c = absurd (omega arith)
opens_open (v ∷ values) zero h c = sym (closes Open v refl c (opens values))
opens_open (v ∷ values) (suc k) h c = let r : opens (set values k Open) ≡ opens values + 1 = opens_open values k (omega arith) c in omega arith
