-- The trail of a search: an entry more, how long it can get, and the assumed literals under it.
use Rattle.std.proofs.Common.{◌≡◌, ℕ, zero, suc, ◌+◌, ◌<◌, ◌≤◌, true, false, ◌-◌, List, [], ◌∷◌, ◌++◌, length, get_or, set, take, reverse, slice_get, ℤ, pos, negsuc, neg_ℤ, Some, None, sym, refl, ap, ◌∙◌, subst, arith}
use Rattle.std.specs.List.{AllByRecursion}
use Rattle.std.proofs.lemmas.List.{length-set, set-set, set-get_or, reverse-append, reverse-reverse}
use Rattle.std.proofs.lemmas.Grind.{common_steps, reverse_onto}
use Rattle.std.proofs.lemmas.Option.{gets}
use Rattle.scan.specs.Edits.{put}
use Rattle.std.proofs.ByRecursion.{All-weaker}
use Rattle.std.proofs.lemmas.Bool.Decides.{nat_tests}
use Rattle.sat.specs.Formula.{variable, is_zero, is_true}
use Rattle.sat.specs.declared.question.Question.{Question}
use Rattle.scan.specs.Values.{truth, reads, Agrees, opens}
use Rattle.scan.specs.declared.value.Value.{Value}
use Rattle.scan.specs.declared.value.Value.TheVariants.{Open, True, False}
use Rattle.scan.proofs.Agreement.{agrees_assign}
use Rattle.scan.proofs.Counting.{opens_bound, opens_close, opens_open}
use Rattle.scan.proofs.Literals.{Names, slot_open, open_literal, assign_true, set_back, opened_true}
use Rattle.scan.specs.declared.values.TheConstants.{LARGEST}
use Rattle.search.specs.States.{literal_of, moved, newest_first, pushed, newest_of, without, popped}
use Rattle.search.specs.Suiting.{Refuted, Says, Sound}
use Rattle.search.specs.declared.state.Entry.{Entry}
use Rattle.search.specs.declared.state.Entry.TheVariants.{Implied}
use Rattle.search.specs.declared.state.State.{State}

-- an entry more comes first
pub newest_pushed : (s : State) (e : Entry) → newest_first (pushed s e) ≡ e ∷ newest_first s
newest_pushed s e = reverse-append s.trail.items (e ∷ [])

-- the state with its newest entry dropped, where that entry and the older ones are known
abbrev pub dropped : State → Entry → List Entry → State
dropped s e older = moved s (put s.values (variable (literal_of e)) Open) (reverse older)

module _ (s : State) (e : Entry) (older : List Entry) (q : newest_first s ≡ e ∷ older) where
  items_is : s.trail.items ≡ reverse older ++ e ∷ []
  items_is = sym (reverse-reverse s.trail.items) ∙ ap reverse q ∙ reverse_onto older e []

  newest_is : newest_of s ≡ Some e
  newest_is = let i : s.trail.items ≡ reverse older ++ e ∷ [] = items_is in grind (arith, common_steps, gets)

  pub popped_is : popped s ≡ dropped s e older
  popped_is =
      let i : s.trail.items ≡ reverse older ++ e ∷ [] = items_is in
      let r : take (length s.trail.items - 1) s.trail.items ≡ reverse older = grind (arith, common_steps) in
      ap (without s) newest_is ∙ ap (moved s (put s.values (variable (literal_of e)) Open)) r

-- the newest entry and the older ones, by what `pop` takes
top_by : (s : State) (e : Entry) (entries : List Entry) → newest_first s ≡ entries → newest_of s ≡ Some e → newest_first s ≡ e ∷ newest_first (popped s)
top_by s e [] q n = let i : s.trail.items ≡ [] = sym (reverse-reverse s.trail.items) ∙ ap reverse q in let o : newest_of s ≡ None = ap (λ xs. slice_get xs (length xs - 1)) i in cc
top_by s e (first ∷ older) q n =
    let o : newest_of s ≡ Some first = newest_is s first older q in
    let p : newest_first (popped s) ≡ older = ap newest_first (popped_is s first older q) ∙ reverse-reverse older in
    cc

bottom_by : (s : State) (entries : List Entry) → newest_first s ≡ entries → newest_of s ≡ None → newest_first s ≡ []
bottom_by s [] q n = q
bottom_by s (e ∷ older) q n = let o : newest_of s ≡ Some e = newest_is s e older q in cc

pub bottom_is : (s : State) → newest_of s ≡ None → newest_first s ≡ []
bottom_is s n = bottom_by s (newest_first s) refl n

pub top_is : (s : State) (e : Entry) → newest_of s ≡ Some e → newest_first s ≡ e ∷ newest_first (popped s)
top_is s e n = top_by s e (newest_first s) refl n

-- the variable of a true literal is not open
pub slot-closed : (values : List Value) (z : ℤ) → reads values z ≡ True → get_or values (variable z) Open ≡ Open → ⊥
slot-closed values z t o = let e : reads values z ≡ Open = open_literal values z o in cc

pub truth-closed : (z : ℤ) → truth z ≡ Open → ⊥
truth-closed (pos n) e = cc
truth-closed (negsuc n) e = cc

-- and has the value that makes it true
slot-truth : (values : List Value) (z : ℤ) → is_zero z ≡ false → reads values z ≡ True → get_or values (variable z) Open ≡ truth z
slot-truth values (pos zero) n t = cc
slot-truth values (pos (suc k)) n t = t
slot-truth values (negsuc k) n t = turned (get_or values (suc k) Open) t
  where
    turned : (w : Value) → reads (w ∷ w ∷ []) (negsuc 0) ≡ True → w ≡ False
    turned Open e = cc
    turned True e = cc
    turned False e = refl

bit_at : (m : List ℕ) (n : ℕ) → AllByRecursion (λ byte. byte ≤ 1) m → get_or m n 0 ≤ 1
bit_at [] n h = omega arith
bit_at (byte ∷ m) zero h = h.0
bit_at (byte ∷ m) (suc n) h = bit_at m n h.1

-- the opposite of a literal that is not true
turned_true : (m : List ℕ) (z : ℤ) → AllByRecursion (λ byte. byte ≤ 1) m → is_zero z ≡ false → (is_true m z ≡ true → ⊥) → is_true m (neg_ℤ z) ≡ true
turned_true m (pos zero) h n c = cc
turned_true m (pos (suc k)) h n c = let b : get_or m k 0 ≤ 1 = bit_at m k h in grind (arith, nat_tests)
turned_true m (negsuc k) h n c = let b : get_or m k 0 ≤ 1 = bit_at m k h in grind (arith, nat_tests)

module _ (question : Question) (bounded : question.variables ≤ LARGEST) where
  -- a trail is no longer than there are variables that it closed
  pub sound_count : (values : List Value) (trail : List Entry) → length values ≡ LARGEST + 1 → Sound question values trail → length trail + opens values ≤ LARGEST + 1
  sound_count values [] l s = omega (arith, opens_bound values)
  sound_count values (e ∷ trail) l s =
      let k : ℕ = variable (literal_of e) in
      let o : opens (set values k Open) ≡ opens values + 1 = opens_open values k (omega (arith, s.0.1)) (slot-closed values (literal_of e) s.1) in
      let r : length trail + opens (set values k Open) ≤ LARGEST + 1 = sound_count (set values k Open) trail (length-set values k Open ∙ l) s.3 in
      omega arith

  -- an open variable leaves room for an entry
  pub sound_room : (values : List Value) (trail : List Entry) (k : ℕ) → length values ≡ LARGEST + 1 → k ≤ question.variables → get_or values k Open ≡ Open → Sound question values trail → length trail < LARGEST + 1
  sound_room values trail k l h o s =
      let c : opens (set values k True) + 1 ≡ opens values = opens_close values k True (omega arith) o (λ e. cc) in
      omega (arith, sound_count values trail l s)

  -- an entry more
  pub sound_push : (values : List Value) (trail : List Entry) (e : Entry) → length values ≡ LARGEST + 1 → Names question.variables (literal_of e) → reads values (literal_of e) ≡ Open → Says question values e →
      Sound question values trail → Sound question (set values (variable (literal_of e)) (truth (literal_of e))) (e ∷ trail)
  sound_push values trail e l h o y s =
      let z : ℤ = literal_of e in
      let b : set (set values (variable z) (truth z)) (variable z) Open ≡ values = set_back values (variable z) (truth z) (slot_open values z h.0 o) in (
        h,
        assign_true values z h.0 (omega (arith, h.1)),
        subst (λ (w : List Value). Says question w e) (sym b) y,
        subst (λ (w : List Value). Sound question w trail) (sym b) s,
      )

  -- the assumed literals are true
  pub sound_kept : (values : List Value) (trail : List Entry) → Sound question values trail → AllByRecursion (λ z. reads values z ≡ True) question.assumed.now
  sound_kept values [] s = s.0
  sound_kept values (e ∷ trail) s =
      let k : ℕ = variable (literal_of e) in
      All-weaker (λ z. reads (set values k Open) z ≡ True) (λ z. reads values z ≡ True) (λ z t. opened_true values k z t) question.assumed.now (sound_kept (set values k Open) trail s.3)

  -- a model that agrees without an entry, and makes its literal true, agrees with it
  agrees_again : (values : List Value) (z : ℤ) (m : List ℕ) → is_zero z ≡ false → reads values z ≡ True → Agrees (set values (variable z) Open) m → is_true m z ≡ true → Agrees values m
  agrees_again values z m n t a h =
      let b : set (set values (variable z) Open) (variable z) (truth z) ≡ values =
      set-set values (variable z) Open (truth z) ∙ sym (ap (set values (variable z)) (slot-truth values z n t)) ∙ set-get_or values (variable z) Open in
      subst (λ (w : List Value). Agrees w m) b (agrees_assign (set values (variable z) Open) m z a h)

  -- an implied entry may be dropped
  pub refuted_implied : (values : List Value) (z : ℤ) → is_zero z ≡ false → reads values z ≡ True → Says question (set values (variable z) Open) (Implied z) →
      Refuted question values → Refuted question (set values (variable z) Open)
  refuted_implied values z n t y r m models a = r m models (agrees_again values z m n t a (y m models a))

  -- the opposite of a choice is implied
  pub refuted_choice : (values : List Value) (z : ℤ) → is_zero z ≡ false → reads values z ≡ True → Refuted question values → Says question (set values (variable z) Open) (Implied (neg_ℤ z))
  refuted_choice values z n t r m models a = turned_true m z models.bits n (λ h. r m models (agrees_again values z m n t a h))
