-- The list of fixed literals: what it says of valuations.
use Rattle.std.proofs.Common.{◌≡◌, ℕ, zero, suc, ◌<◌, ◌≤◌, true, not, leb, List, [], ◌∷◌, ◌++◌, get_or, ℤ, pos, negsuc, sym, refl, ap, subst, ⊎_elim, arith}
use Rattle.std.specs.Option.{option_to_list}
use Rattle.std.specs.List.{AllByRecursion}
use Rattle.std.proofs.ByRecursion.{All-append}
use Rattle.std.proofs.lemmas.Bool.{and_from, le-leb, cases_eq}
use Rattle.sat.specs.Formula.{variable, is_zero, within, literals}
use Rattle.scan.specs.Values.{reads, opposite}
use Rattle.scan.specs.declared.value.Value.{Value}
use Rattle.scan.specs.declared.value.Value.TheVariants.{Open, True, False}
use Rattle.scan.proofs.Literals.{Names}
use Rattle.forcing.specs.Listing.{literal_of, fixed_up_to}

all_first : {X : Type 0} (P : X → Type 0) (xs ys : List X) → AllByRecursion P (xs ++ ys) → AllByRecursion P xs
all_first P [] ys h = tt
all_first P (x ∷ xs) ys h = (h.0, all_first P xs ys h.1)

all_second : {X : Type 0} (P : X → Type 0) (xs ys : List X) → AllByRecursion P (xs ++ ys) → AllByRecursion P ys
all_second P [] ys h = h
all_second P (x ∷ xs) ys h = all_second P xs ys h.1

-- literals that name variables pass the tests of a question
pub within_from_names : (v : ℕ) (zs : List ℤ) → AllByRecursion (Names v) zs → within v zs ≡ true
within_from_names v [] h = refl
within_from_names v (z ∷ zs) h = and_from (leb (variable z) v) (within v zs) (le-leb (variable z) v h.0.1) (within_from_names v zs h.1)

pub literals_from_names : (v : ℕ) (zs : List ℤ) → AllByRecursion (Names v) zs → literals zs ≡ true
literals_from_names v [] h = refl
literals_from_names v (z ∷ zs) h = and_from (not (is_zero z)) (literals zs) (ap not h.0.0) (literals_from_names v zs h.1)

module _ (values : List Value) where
  -- what is listed: literals that are true, of the variables up to n, and all of those
  entry_reads : (n : ℕ) (x : Value) → get_or values (suc n) Open ≡ x → AllByRecursion (λ z. reads values z ≡ True) (option_to_list (literal_of x (suc n)))
  entry_reads n Open e = tt
  entry_reads n True e = (e, tt)
  entry_reads n False e = (ap opposite e, tt)

  pub fixed_reads : (n : ℕ) → AllByRecursion (λ z. reads values z ≡ True) (fixed_up_to values n)
  fixed_reads zero = tt
  fixed_reads (suc n) =
      All-append (λ z. reads values z ≡ True) (fixed_up_to values n) (option_to_list (literal_of (get_or values (suc n) Open) (suc n))) (fixed_reads n) (entry_reads n (get_or values (suc n) Open) refl)

  entry_names : (v n : ℕ) (x : Value) → n < v → AllByRecursion (Names v) (option_to_list (literal_of x (suc n)))
  entry_names v n Open h = tt
  entry_names v n True h = ((refl, omega arith), tt)
  entry_names v n False h = ((refl, omega arith), tt)

  pub fixed_names : (v n : ℕ) → n ≤ v → AllByRecursion (Names v) (fixed_up_to values n)
  fixed_names v zero h = tt
  fixed_names v (suc n) h =
      All-append (Names v) (fixed_up_to values n) (option_to_list (literal_of (get_or values (suc n) Open) (suc n))) (fixed_names v n (omega arith)) (entry_names v n (get_or values (suc n) Open) (omega arith))

  entry_has : (P : ℤ → Type 0) (n : ℕ) (x : Value) → get_or values (suc n) Open ≡ x → AllByRecursion P (option_to_list (literal_of x (suc n))) → (z : ℤ) → variable z ≡ suc n → reads values z ≡ True → P z
  entry_has P n x e h (pos zero) v r = absurd (omega arith)
  entry_has P n Open e h (pos (suc k)) v r = cc
  entry_has P n True e h (pos (suc k)) v r = subst (λ i. P (pos i)) (sym v) h.0
  entry_has P n False e h (pos (suc k)) v r = cc
  entry_has P n Open e h (negsuc k) v r = cc
  entry_has P n True e h (negsuc k) v r = cc
  entry_has P n False e h (negsuc k) v r = let s : k ≡ n = omega arith in subst (λ i. P (negsuc i)) (sym s) h.0

  pub fixed_has : (P : ℤ → Type 0) (n : ℕ) → AllByRecursion P (fixed_up_to values n) → (z : ℤ) → Names n z → reads values z ≡ True → P z
  fixed_has P zero h (pos zero) k r = cc
  fixed_has P zero h (pos (suc n)) k r = absurd (omega (arith, k.1))
  fixed_has P zero h (negsuc n) k r = absurd (omega (arith, k.1))
  fixed_has P (suc n) h z k r =
      ⊎_elim
      (λ e. entry_has P n (get_or values (suc n) Open) refl (all_second P (fixed_up_to values n) (option_to_list (literal_of (get_or values (suc n) Open) (suc n))) h) z e r)
      (λ ne. fixed_has P n (all_first P (fixed_up_to values n) (option_to_list (literal_of (get_or values (suc n) Open) (suc n))) h) z (k.0, omega (arith, k.1, ne)) r)
      (cases_eq (variable z) (suc n))
