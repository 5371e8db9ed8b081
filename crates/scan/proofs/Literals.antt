-- Literals that name one of the variables 1 to v, and what they are after a change of the values.
use Rattle.std.proofs.Common.{◌≡◌, ℕ, zero, suc, ◌<◌, ◌≤◌, true, false, not, leb, List, [], ◌∷◌, length, get_or, set, ℤ, pos, negsuc, sym, refl, ap, ◌∙◌, ⊎_elim, arith}
use Rattle.std.specs.List.{AllByRecursion}
use Rattle.std.proofs.lemmas.List.{get_or-set_same, get_or-set_other, set-set, set-get_or, get_or_past, length-set}
use Rattle.std.proofs.lemmas.Bool.{and_parts, not-true, leb-true, cases_lt, cases_Bool}
use Rattle.sat.specs.Formula.{variable, is_zero, into_first, clauses_of, within, literals}
use Rattle.scan.specs.Values.{opposite, truth, reads}
use Rattle.scan.specs.declared.value.Value.{Value}
use Rattle.scan.specs.declared.value.Value.TheVariants.{Open, True, False}

-- a literal of one of the variables 1 to v
abbrev pub Names : ℕ → ℤ → Type 0
Names v z = (is_zero z ≡ false) × (variable z ≤ v)

pub literals_name : (v : ℕ) (zs : List ℤ) → within v zs ≡ true → literals zs ≡ true → AllByRecursion (Names v) zs
literals_name v [] w l = tt
literals_name v (z ∷ zs) w l =
    let p : _ = and_parts (leb (variable z) v) (within v zs) w in
    let q : _ = and_parts (not (is_zero z)) (literals zs) l in
    ((not-true (is_zero z) q.0, leb-true (variable z) v p.0), literals_name v zs p.1 q.1)

first_name : (v : ℕ) (z : ℤ) (clauses : List (List ℤ)) → Names v z → AllByRecursion (AllByRecursion (Names v)) clauses → AllByRecursion (AllByRecursion (Names v)) (into_first z clauses)
first_name v z [] h k = tt
first_name v z (clause ∷ clauses) h k = ((h, k.0), k.1)

-- the literals of a formula's clauses
pub clauses_name : (v : ℕ) (formula : List ℤ) → within v formula ≡ true → AllByRecursion (AllByRecursion (Names v)) (clauses_of formula)
clauses_name v [] w = tt
clauses_name v (z ∷ formula) w =
    let p : _ = and_parts (leb (variable z) v) (within v formula) w in
    ⊎_elim
    (λ e. rw e (tt, clauses_name v formula p.1))
    (λ e. rw e (first_name v z (clauses_of formula) (e, leb-true (variable z) v p.0) (clauses_name v formula p.1)))
    (cases_Bool (is_zero z))

-- a literal goes by its variable's value
abbrev facing : ℤ → Value → Value
facing (pos n) value = value
facing (negsuc n) value = opposite value

reads_facing : (values : List Value) (z : ℤ) → is_zero z ≡ false → reads values z ≡ facing z (get_or values (variable z) Open)
reads_facing values (pos zero) e = cc
reads_facing values (pos (suc n)) e = refl
reads_facing values (negsuc n) e = refl

facing_open : (z : ℤ) (v : Value) → facing z v ≡ Open → v ≡ Open
facing_open (pos n) v e = e
facing_open (negsuc n) Open e = refl
facing_open (negsuc n) True e = cc
facing_open (negsuc n) False e = cc

facing_truth : (z : ℤ) → facing z (truth z) ≡ True
facing_truth (pos n) = refl
facing_truth (negsuc n) = refl

module _ (values : List Value) where
  -- the variable of an open literal is open
  pub slot_open : (z : ℤ) → is_zero z ≡ false → reads values z ≡ Open → get_or values (variable z) Open ≡ Open
  slot_open z n e = facing_open z (get_or values (variable z) Open) (sym (reads_facing values z n) ∙ e)

  -- a literal made true is true
  pub assign_true : (z : ℤ) → is_zero z ≡ false → variable z < length values → reads (set values (variable z) (truth z)) z ≡ True
  assign_true z n h = reads_facing (set values (variable z) (truth z)) z n ∙ ap (facing z) (get_or-set_same values (variable z) (truth z) Open h) ∙ facing_truth z

  -- a literal of another variable stays what it is
  pub set_other : (k : ℕ) (v : Value) (y : ℤ) → (variable y ≡ k → ⊥) → reads (set values k v) y ≡ reads values y
  set_other k v (pos zero) ne = refl
  set_other k v (pos (suc n)) ne = get_or-set_other values k (suc n) v Open ne
  set_other k v (negsuc n) ne = ap opposite (get_or-set_other values k (suc n) v Open ne)

  pub open_literal : (y : ℤ) → get_or values (variable y) Open ≡ Open → reads values y ≡ Open
  open_literal (pos zero) e = refl
  open_literal (pos (suc n)) e = e
  open_literal (negsuc n) e = ap opposite e

  -- a true literal stays true where an open variable is changed
  pub set_keeps : (k : ℕ) (v : Value) (y : ℤ) → get_or values k Open ≡ Open → reads values y ≡ True → reads (set values k v) y ≡ True
  set_keeps k v y o t =
      set_other k v y (λ e. let g : reads values y ≡ Open = open_literal y (ap (λ n. get_or values n Open) e ∙ o) in cc) ∙ t

  -- an open variable that is changed and opened again
  pub set_back : (k : ℕ) (v : Value) → get_or values k Open ≡ Open → set (set values k v) k Open ≡ values
  set_back k v o = set-set values k v Open ∙ sym (ap (set values k) o) ∙ set-get_or values k Open

pub opened_open : (values : List Value) (k : ℕ) → get_or (set values k Open) k Open ≡ Open
opened_open values k =
    ⊎_elim (λ h. get_or-set_same values k Open Open h) (λ h. get_or_past (set values k Open) k Open (omega (arith, length-set values k Open))) (cases_lt k (length values))

-- a literal that is true with a variable opened is true
pub opened_true : (values : List Value) (k : ℕ) (y : ℤ) → reads (set values k Open) y ≡ True → reads values y ≡ True
opened_true values k y t =
    sym (set_other values k Open y (λ e.
    let g : reads (set values k Open) y ≡ Open = open_literal (set values k Open) y (ap (λ n. get_or (set values k Open) n Open) e ∙ opened_open values k) in
    cc)) ∙ t
