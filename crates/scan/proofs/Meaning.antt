-- What is so of a clause by its judgement.
use Rattle.std.proofs.Common.{◌≡◌, true, false, cond, ◌||◌, ◌⊎◌, List, [], ◌∷◌, ℤ, Some, sym, refl, inl, inr, ⊎_elim, arith}
use Rattle.std.specs.List.{ContainsAt, AllByRecursion}
use Rattle.std.proofs.ByRecursion.{All-weaker, all-has, all_has_itself, all_kept_by, kept_by_passes, has_get_or, has_append_right}
use Rattle.std.proofs.lemmas.Bool.{and_parts, cond_both}
use Rattle.std.proofs.lemmas.Bool.Decides.{Decides-int_eq}
use Rattle.std.specs.Ordering.{int_eq}
use Rattle.sat.specs.Formula.{every}
use Rattle.scan.specs.Values.{reads}
use Rattle.scan.specs.Clauses.{is_open, is_held, held, open_in, by_open, judged, Means, Told}
use Rattle.scan.specs.declared.value.Value.{Value}
use Rattle.scan.specs.declared.value.Value.TheVariants.{Open, True, False}
use Rattle.scan.specs.declared.clause.Standing.TheVariants.{Undecided, Satisfied, Forcing}
use Rattle.scan.specs.declared.clause.Reading.{Reading}

has_here : {X : Type 0} (x : X) (xs : List X) → ContainsAt (x ∷ xs) x
has_here x xs = has_get_or (x ∷ xs) 0 x (omega arith)

has_later : {X : Type 0} (x y : X) (xs : List X) → ContainsAt xs y → ContainsAt (x ∷ xs) y
has_later x y xs h = has_append_right (x ∷ []) xs y h

has_none : {X : Type 0} (x : X) → ContainsAt [] x → ⊥
has_none x h = omega (arith, h.1)

every-equal : (z : ℤ) (zs : List ℤ) → every (int_eq z) zs ≡ true → AllByRecursion (λ y. y ≡ z) zs
every-equal z [] e = tt
every-equal z (y ∷ zs) e = let p : _ = and_parts (int_eq z y) (every (int_eq z) zs) e in (sym ((Decides-int_eq z y).0 p.0), every-equal z zs p.1)

module _ (values : List Value) where
  open_is : (v : Value) → is_open v ≡ true → v ≡ Open
  open_is Open e = refl
  open_is True e = cc
  open_is False e = cc

  opens_are : (clause zs : List ℤ) → AllByRecursion (ContainsAt clause) zs → AllByRecursion (λ z. is_open (reads values z) ≡ true) zs → AllByRecursion (λ z. ContainsAt clause z × (reads values z ≡ Open)) zs
  opens_are clause [] h k = tt
  opens_are clause (z ∷ zs) h k = ((h.0, open_is (reads values z) k.0), opens_are clause zs h.1 k.1)

  -- the open literals are open literals of the clause
  opens_in : (clause : List ℤ) → AllByRecursion (λ z. ContainsAt clause z × (reads values z ≡ Open)) (open_in values clause)
  opens_in clause =
      opens_are clause (open_in values clause) (all_kept_by (λ z. is_open (reads values z)) (ContainsAt clause) clause (all_has_itself clause)) (kept_by_passes (λ z. is_open (reads values z)) clause)

  rest_by : (z : ℤ) (clause : List ℤ) (v : Value) → reads values z ≡ v → (is_held v || held values clause) ≡ false →
      (held values clause ≡ false → AllByRecursion (λ y. (reads values y ≡ False) ⊎ ContainsAt (open_in values clause) y) clause) →
      AllByRecursion (λ y. (reads values y ≡ False) ⊎ ContainsAt (cond (is_open v) (z ∷ open_in values clause) (open_in values clause)) y) (z ∷ clause)
  rest_by z clause Open r e h = (
    inr (has_here z (open_in values clause)),
    All-weaker (λ y. (reads values y ≡ False) ⊎ ContainsAt (open_in values clause) y) (λ y. (reads values y ≡ False) ⊎ ContainsAt (z ∷ open_in values clause) y)
        (λ y k. ⊎_elim inl (λ g. inr (has_later z y (open_in values clause) g)) k) clause (h e),
  )
  rest_by z clause True r e h = cc
  rest_by z clause False r e h = (inl r, h e)

  -- without a true literal each is false or among the open ones
  rest_in : (clause : List ℤ) → held values clause ≡ false → AllByRecursion (λ z. (reads values z ≡ False) ⊎ ContainsAt (open_in values clause) z) clause
  rest_in [] e = tt
  rest_in (z ∷ clause) e = rest_by z clause (reads values z) refl e (rest_in clause)

  held_by : (z : ℤ) (clause : List ℤ) (v : Value) → reads values z ≡ v → (is_held v || held values clause) ≡ true →
      (held values clause ≡ true → (y : ℤ) × ContainsAt clause y × (reads values y ≡ True)) → (y : ℤ) × ContainsAt (z ∷ clause) y × (reads values y ≡ True)
  held_by z clause Open r e h = let g : (y : ℤ) × ContainsAt clause y × (reads values y ≡ True) = h e in (g.0, has_later z g.0 clause g.1, g.2)
  held_by z clause True r e h = (z, has_here z clause, r)
  held_by z clause False r e h = let g : (y : ℤ) × ContainsAt clause y × (reads values y ≡ True) = h e in (g.0, has_later z g.0 clause g.1, g.2)

  -- a true literal of the clause
  held_in : (clause : List ℤ) → held values clause ≡ true → (z : ℤ) × ContainsAt clause z × (reads values z ≡ True)
  held_in [] e = cc
  held_in (z ∷ clause) e = held_by z clause (reads values z) refl e (held_in clause)

  means_open : (clause opens : List ℤ) → AllByRecursion (λ z. ContainsAt clause z × (reads values z ≡ Open)) opens → AllByRecursion (λ z. (reads values z ≡ False) ⊎ ContainsAt opens z) clause → Means values clause (by_open opens)
  means_open clause [] o r = All-weaker (λ z. (reads values z ≡ False) ⊎ ContainsAt [] z) (λ z. reads values z ≡ False) (λ z k. ⊎_elim (λ e. e) (λ h. absurd (has_none z h)) k) clause r
  means_open clause (z ∷ zs) o r =
      cond_both (every (int_eq z) zs) (Forcing z) Undecided (Means values clause)
      (λ e. (
        o.0.0,
        o.0.1,
        All-weaker (λ y. (reads values y ≡ False) ⊎ ContainsAt (z ∷ zs) y) (λ y. (y ≡ z) ⊎ (reads values y ≡ False))
            (λ y k. ⊎_elim inr (λ h. inl (all-has (λ x. x ≡ z) (z ∷ zs) y (refl, every-equal z zs e) h)) k) clause r,
      ))
      (λ e. (z, o.0.0, o.0.1))

  -- the judgement of a clause is true
  pub judged_means : (clause : List ℤ) → Means values clause (judged values clause)
  judged_means clause =
      cond_both (held values clause) Satisfied (by_open (open_in values clause)) (Means values clause) (held_in clause)
      (λ e. means_open clause (open_in values clause) (opens_in clause) (rest_in clause e))

  -- what is told of the first clause by its judgement
  pub told_first : (clauses : List (List ℤ)) (r : Reading) (clause : List ℤ) (later : List (List ℤ)) → clauses ≡ clause ∷ later → r.standing ≡ judged values clause → Told values clauses (Some r)
  told_first clauses r clause later f e = rw f (rw e (judged_means clause))
