-- Each step of a search suits the mood that follows, and leaves less.
use Rattle.std.proofs.Common.{◌≡◌, ℕ, zero, suc, ◌+◌, ◌<◌, ◌≤◌, false, List, [], ◌∷◌, get_or, length, ℤ, pos, negsuc, neg_ℤ, Some, None, Option, sym, refl, ap, ◌∙◌, subst, arith}
use Rattle.std.proofs.lemmas.List.{length-reverse, reverse-reverse}
use Rattle.sat.specs.Formula.{variable, is_zero, clauses_of}
use Rattle.sat.specs.declared.question.Verdict.{Verdict}
use Rattle.sat.specs.declared.question.Verdict.TheVariants.{No}
use Rattle.scan.specs.Values.{truth, reads, opens}
use Rattle.scan.specs.Rounds.{Finds}
use Rattle.scan.specs.declared.value.Value.TheVariants.{Open}
use Rattle.scan.specs.declared.round.Telling.{Telling}
use Rattle.scan.specs.declared.round.Telling.TheVariants.{Conflict, Forced}
use Rattle.scan.proofs.Counting.{opens_close, opens_open}
use Rattle.scan.proofs.Finding.{conflict_none, forced-true, forced_names}
use Rattle.scan.proofs.Literals.{Names, slot_open, open_literal, opened_open}
use Rattle.scan.proofs.Rounds.{round-tells}
use Rattle.scan.specs.declared.values.TheConstants.{LARGEST}
use Rattle.search.specs.States.{literal_of, newest_first, pushed, newest_of, popped, lowest_open, Lowest}
use Rattle.search.specs.Moods.{Moment, round_of, seen_by, placed, looked, forced, chosen_as, turned_by, backed, stepped}
use Rattle.search.specs.Suiting.{Says, Based, Sound, Going, Suits, nodes, untried, weight}
use Rattle.search.specs.declared.state.Entry.{Entry}
use Rattle.search.specs.declared.state.Entry.TheVariants.{Implied, Choice}
use Rattle.search.specs.declared.state.State.{State}
use Rattle.search.specs.declared.mood.Mood.{Mood}
use Rattle.search.specs.declared.mood.Mood.TheVariants.{Forcing, Choosing, Backing, Ended}
use Rattle.search.proofs.Lowest.{lowest_is}
use Rattle.search.proofs.Trails.{newest_pushed, dropped, popped_is, bottom_is, top_is, slot-closed, truth-closed, sound_count, sound_room, sound_push, refuted_implied, refuted_choice}
use Rattle.search.proofs.Weights.{nodes_some, push_less}

-- a moment that may follow a state in a mood
pub record Next (s : State) (mood : Mood) (t : Moment) : Type 0 where
  pub suits : Suits t.0 t.1
  pub less : weight t.0 t.1 < weight s mood
  pub same : t.0.question ≡ s.question

-- an open literal may be entered
module _ (s : State) (g : Going s) (e : Entry) (h : Names s.question.variables (literal_of e)) (o : reads s.values.slots (literal_of e) ≡ Open) where
  slot : get_or s.values.slots (variable (literal_of e)) Open ≡ Open
  slot = slot_open s.values.slots (literal_of e) h.0 o

  push_room : length s.trail.items < LARGEST + 1
  push_room =
      omega (arith, length-reverse s.trail.items, sound_room s.question g.bounded s.values.slots (newest_first s) (variable (literal_of e)) s.values.long h.1 slot g.sound)

  push_going : Says s.question s.values.slots e → Going (pushed s e)
  push_going y = record {
    bounded = g.bounded;
    inside = g.inside;
    named = g.named;
    sound = subst (Sound s.question (pushed s e).values.slots) (sym (newest_pushed s e)) (sound_push s.question g.bounded s.values.slots (newest_first s) e s.values.long h o y g.sound);
  }

  push_opens : opens (pushed s e).values.slots + 1 ≡ opens s.values.slots
  push_opens = opens_close s.values.slots (variable (literal_of e)) (truth (literal_of e)) (omega (arith, h.1, g.bounded, s.values.long)) slot (truth-closed (literal_of e))

  push_weight : weight (pushed s e) Forcing < weight s Choosing
  push_weight =
      let free : ℕ = opens (pushed s e).values.slots in
      let older : List Entry = newest_first s in
      let a : untried free (newest_first (pushed s e)) ≡ untried free (e ∷ older) = ap (untried free) (newest_pushed s e) in
      let b : nodes (free + 1) + untried (free + 1) older ≡ nodes (opens s.values.slots) + untried (opens s.values.slots) older = ap (λ k. nodes k + untried k older) push_opens in
      omega (arith, push_less free e older)

  push_next : (mood : Mood) → weight s Choosing ≤ weight s mood → Says s.question s.values.slots e → Next s mood (pushed s e, Forcing)
  push_next mood w y = record { suits = push_going y; less = omega (arith, push_weight); same = refl }

neg_names : (v : ℕ) (z : ℤ) → Names v z → Names v (neg_ℤ z)
neg_names v (pos zero) h = h
neg_names v (pos (suc n)) h = (refl, h.1)
neg_names v (negsuc n) h = (refl, h.1)

neg_variable : (z : ℤ) → variable (neg_ℤ z) ≡ variable z
neg_variable (pos zero) = refl
neg_variable (pos (suc n)) = refl
neg_variable (negsuc n) = refl

-- the newest entry may be dropped
module _ (s : State) (g : Going s) (e : Entry) (older : List Entry) (q : newest_first s ≡ e ∷ older) where
  top : Sound s.question s.values.slots (e ∷ older)
  top = subst (Sound s.question s.values.slots) q g.sound

  drop_going : Going (dropped s e older)
  drop_going = record {
    bounded = g.bounded;
    inside = g.inside;
    named = g.named;
    sound = subst (Sound s.question (dropped s e older).values.slots) (sym (reverse-reverse older)) top.3;
  }

  drop_opens : opens (dropped s e older).values.slots ≡ opens s.values.slots + 1
  drop_opens = opens_open s.values.slots (variable (literal_of e)) (omega (arith, top.0.1, g.bounded, s.values.long)) (slot-closed s.values.slots (literal_of e) top.1)

  untried_top : untried (opens s.values.slots) (newest_first s) ≡ untried (opens s.values.slots) (e ∷ older)
  untried_top = ap (untried (opens s.values.slots)) q

-- the newest entry, where no model agrees: dropped if it is implied, and else turned
module _ (s : State) (b : Suits s Backing) (z : ℤ) (older : List Entry) where
  module _ (q : newest_first s ≡ Implied z ∷ older) where
    drop_implied : Suits (dropped s (Implied z) older) Backing
    drop_implied =
        let t : _ = top s b.0 (Implied z) older q in
        (drop_going s b.0 (Implied z) older q, refuted_implied s.question b.0.bounded s.values.slots z t.0.0 t.1 t.2 b.1)

    drop_weight : weight (dropped s (Implied z) older) Backing ≡ weight s Backing
    drop_weight =
        let o : untried (opens (dropped s (Implied z) older).values.slots) (newest_first (dropped s (Implied z) older)) ≡ untried (opens s.values.slots + 1) older =
        ap (untried (opens (dropped s (Implied z) older).values.slots)) (reverse-reverse older) ∙ ap (λ k. untried k older) (drop_opens s b.0 (Implied z) older q) in
        omega (arith, untried_top s b.0 (Implied z) older q)

  module _ (q : newest_first s ≡ Choice z ∷ older) where
    turn_names : Names s.question.variables (neg_ℤ z)
    turn_names = neg_names s.question.variables z (top s b.0 (Choice z) older q).0

    turn_open : reads (dropped s (Choice z) older).values.slots (neg_ℤ z) ≡ Open
    turn_open =
        open_literal (dropped s (Choice z) older).values.slots (neg_ℤ z)
        (ap (λ k. get_or (dropped s (Choice z) older).values.slots k Open) (neg_variable z) ∙ opened_open s.values.slots (variable z))

    turn_says : Says s.question (dropped s (Choice z) older).values.slots (Implied (neg_ℤ z))
    turn_says = let t : _ = top s b.0 (Choice z) older q in refuted_choice s.question b.0.bounded s.values.slots z t.0.0 t.1 b.1

    turn_weight : weight (pushed (dropped s (Choice z) older) (Implied (neg_ℤ z))) Forcing < weight s Backing
    turn_weight =
        let t : State = dropped s (Choice z) older in
        let free : ℕ = opens (pushed t (Implied (neg_ℤ z))).values.slots in
        let o : free ≡ opens s.values.slots =
        omega (arith, push_opens t (drop_going s b.0 (Choice z) older q) (Implied (neg_ℤ z)) turn_names turn_open, drop_opens s b.0 (Choice z) older q) in
        let n : nodes free ≡ nodes (opens s.values.slots) = ap nodes o in
        let u : untried (free + 1) older ≡ untried (opens s.values.slots + 1) older = ap (λ k. untried (k + 1) older) o in
        let p : untried free (newest_first (pushed t (Implied (neg_ℤ z)))) ≡ untried (free + 1) older =
        ap (untried free) (newest_pushed t (Implied (neg_ℤ z))) ∙ ap (untried (free + 1)) (reverse-reverse older) in
        omega (arith, untried_top s b.0 (Choice z) older q)

    -- the opposite of a choice may be entered
    turn_next : Next s Backing (pushed (dropped s (Choice z) older) (Implied (neg_ℤ z)), Forcing)
    turn_next = record {
      suits = push_going (dropped s (Choice z) older) (drop_going s b.0 (Choice z) older q) (Implied (neg_ℤ z)) turn_names turn_open turn_says;
      less = turn_weight;
      same = refl;
    }

-- backing goes on below an implied entry, and ends at a choice or where there is no entry
pub backed_none : (s : State) → newest_of s ≡ None → backed (newest_first s) s ≡ (s, Ended No)
backed_none s n = ap (λ entries. backed entries s) (bottom_is s n)

module _ (s : State) (z : ℤ) where
  pub backed_implied : newest_of s ≡ Some (Implied z) → backed (newest_first s) s ≡ backed (newest_first (popped s)) (popped s)
  backed_implied n = ap (λ entries. backed entries s) (top_is s (Implied z) n)

  pub backed_choice : newest_of s ≡ Some (Choice z) → backed (newest_first s) s ≡ (pushed (popped s) (Implied (neg_ℤ z)), Forcing)
  backed_choice n = ap (λ entries. backed entries s) (top_is s (Choice z) n)

back_by : (s : State) (b : Suits s Backing) (e : Entry) (older : List Entry) → newest_first s ≡ e ∷ older → (Suits (dropped s e older) Backing → Next (dropped s e older) Backing (backed older (dropped s e older))) →
    Next s Backing (turned_by (dropped s e older) e (backed older (dropped s e older)))
back_by s b (Implied z) older q h =
    let k : Next (dropped s (Implied z) older) Backing (backed older (dropped s (Implied z) older)) = h (drop_implied s b z older q) in
    record { suits = k.suits; less = omega (arith, k.less, drop_weight s b z older q); same = k.same }
back_by s b (Choice z) older q h = turn_next s b z older q

-- backing suits the mood that it ends in
back_next : (entries : List Entry) (s : State) → newest_first s ≡ entries → Suits s Backing → Next s Backing (backed entries s)
back_next [] s q b =
    let base : Based s.question s.values.slots = subst (Sound s.question s.values.slots) q b.0.sound in
    record { suits = λ m models. b.1 m models (base.1 m models); less = omega arith; same = refl }
back_next (e ∷ older) s q b =
    subst (λ (t : State). Next s Backing (turned_by t e (backed older t))) (sym (popped_is s e older q))
    (back_by s b e older q (back_next older (dropped s e older) (reverse-reverse older)))

-- what is known of the newest entry where it is taken
module _ (s : State) (b : Suits s Backing) where
  pub pop_implied : (z : ℤ) → newest_of s ≡ Some (Implied z) → Suits (popped s) Backing
  pop_implied z n =
      let q : newest_first s ≡ Implied z ∷ newest_first (popped s) = top_is s (Implied z) n in
      subst (λ (t : State). Suits t Backing) (sym (popped_is s (Implied z) (newest_first (popped s)) q)) (drop_implied s b z (newest_first (popped s)) q)

  pub choice_names : (z : ℤ) → newest_of s ≡ Some (Choice z) → Names s.question.variables z
  choice_names z n = (top s b.0 (Choice z) (newest_first (popped s)) (top_is s (Choice z) n)).0

-- there is room for an entry once the newest is taken
pub pop_room : (s : State) → Going s → (e : Entry) → newest_of s ≡ Some e → length (popped s).trail.items < LARGEST + 1
pop_room s g e n =
    omega (
      arith,
      length-reverse (popped s).trail.items,
      sound_count s.question g.bounded s.values.slots (newest_first s) s.values.long g.sound,
      ap length (top_is s e n),
    )

-- a new place to begin at changes nothing
placed_going : (s : State) (p : ℕ) → Going s → Going (placed s p)
placed_going s p g = record { bounded = g.bounded; inside = g.inside; named = g.named; sound = g.sound }

module _ (s : State) (g : Going s) where
  round-true : Finds s.values.slots (clauses_of s.question.formula.now) (round_of s).found
  round-true = round-tells s.values.slots s.question.formula.now s.place (round_of s) refl

  module _ (z : ℤ) (f : Finds s.values.slots (clauses_of s.question.formula.now) (Some (Forced z))) where
    forced_room : length s.trail.items < LARGEST + 1
    forced_room = let h : _ = forced_names s.question.variables s.question.formula.now s.values.slots z g.inside f in push_room s g (Implied z) h.0 h.1

    forced-next : (p : ℕ) → Next s Forcing (pushed (placed s p) (Implied z), Forcing)
    forced-next p =
        let h : _ = forced_names s.question.variables s.question.formula.now s.values.slots z g.inside f in
        let k : Next (placed s p) Forcing (pushed (placed s p) (Implied z), Forcing) =
        push_next (placed s p) (placed_going s p g) (Implied z) h.0 h.1 Forcing (omega arith)
        (forced-true s.question.variables s.question.formula.now s.question.assumed.now s.values.slots z f) in
        record { suits = k.suits; less = k.less; same = refl }

  found-next : (p : ℕ) (t : Option Telling) → Finds s.values.slots (clauses_of s.question.formula.now) t → Next s Forcing (forced (placed s p) t)
  found-next p None f = record { suits = (placed_going s p g, f); less = omega arith; same = refl }
  found-next p (Some Conflict) f = record {
    suits = (placed_going s p g, conflict_none s.question.variables s.question.formula.now s.question.assumed.now s.values.slots f);
    less = omega (arith, nodes_some (opens s.values.slots));
    same = refl;
  }
  found-next p (Some (Forced z)) f = forced-next z f p

  -- there is room for a forced literal
  found_room : (z : ℤ) → (round_of s).found ≡ Some (Forced z) → length s.trail.items < LARGEST + 1
  found_room z e = forced_room z (subst (Finds s.values.slots (clauses_of s.question.formula.now)) e round-true)

  module _ (n : ℕ) (l : Lowest s.question.variables s.values.slots (Some n)) where
    chosen_names : Names s.question.variables (pos n)
    chosen_names = (positive n l.0, l.1)
      where
        positive : (k : ℕ) → 0 < k → is_zero (pos k) ≡ false
        positive zero h = absurd (omega arith)
        positive (suc k) h = refl

    chosen_open : reads s.values.slots (pos n) ≡ Open
    chosen_open = open_literal s.values.slots (pos n) l.2

    -- there is room for a choice
    pub chosen_room : length s.trail.items < LARGEST + 1
    chosen_room = push_room s g (Choice (pos n)) chosen_names chosen_open

  chosen-next : Finds s.values.slots (clauses_of s.question.formula.now) None → (o : Option ℕ) → Lowest s.question.variables s.values.slots o → Next s Choosing (chosen_as s o)
  chosen-next f None l = record { suits = (g, f, l); less = omega (arith, nodes_some (opens s.values.slots)); same = refl }
  chosen-next f (Some n) l = push_next s g (Choice (pos n)) (chosen_names n l) (chosen_open n l) Choosing (omega arith) tt

step_from : (s : State) (mood : Mood) → ((verdict : Verdict) → mood ≡ Ended verdict → ⊥) → Suits s mood → Next s mood (stepped s mood)
step_from s Forcing u g = found-next s g (round_of s).next (round_of s).found (round-true s g)
step_from s Choosing u g =
    chosen-next s g.0 g.1 (lowest_open s.question.variables s.values.slots) (lowest_is s.question.variables s.values.slots (lowest_open s.question.variables s.values.slots) refl)
step_from s Backing u g = back_next (newest_first s) s refl g
step_from s (Ended verdict) u g = absurd (u verdict refl)

-- each step suits the mood that follows, and leaves less
pub step_next : (s : State) (mood : Mood) (t : State) (after : Mood) → ((verdict : Verdict) → mood ≡ Ended verdict → ⊥) → Suits s mood → after ≡ (stepped s mood).1 → t ≡ (stepped s mood).0 → Next s mood (t, after)
step_next s mood t after u g a l =
    let e : stepped s mood ≡ (t, after) = sym (ap (λ x. (x, after)) l ∙ ap (λ x. ((stepped s mood).0, x)) a) in
    subst (Next s mood) e (step_from s mood u g)

-- there is room for a forced literal, in the step that matches the mood with what was found
pub step_room : (s : State) (mood : Mood) (z : ℤ) → mood ≡ Forcing → Some (Forced z) ≡ seen_by s mood → (t : State) → t ≡ looked s mood → Suits s mood → length t.trail.items < LARGEST + 1
step_room s mood z e f t l g =
    subst (λ (u : State). length u.trail.items < LARGEST + 1) (sym (l ∙ ap (looked s) e))
    (found_room s (subst (Suits s) e g) z (sym (f ∙ ap (seen_by s) e)))

-- and is then entered
pub step_forced : (s : State) (mood : Mood) (z : ℤ) → mood ≡ Forcing → Some (Forced z) ≡ seen_by s mood → (t : State) → t ≡ looked s mood → pushed t (Implied z) ≡ (stepped s mood).0
step_forced s mood z e f t l =
    ap (λ u. pushed u (Implied z)) (l ∙ ap (looked s) e)
    ∙ ap (λ o. (forced (looked s Forcing) o).0) (f ∙ ap (seen_by s) e)
    ∙ sym (ap (λ m. (stepped s m).0) e)
