use Rattle.std.proofs.Common.{◌≡◌, ◌+◌, ◌<◌, length, pos, ◌-ℤ◌, neg_ℤ, Some, None, sym, ap, ◌∙◌, subst, arith, w16, SFits, to_z, of_z, rules}
use Rattle.std.proofs.lemmas.Int.{ints}
use Rattle.scan.proofs.Literals.{Names}
use Rattle.scan.specs.declared.values.TheConstants.{LARGEST}
use Rattle.search.specs.States.{newest_first, newest_of, pushed, popped, without}
use Rattle.search.specs.Moods.{backed}
use Rattle.search.specs.Suiting.{Suits}
use Rattle.search.specs.declared.state.Entry.TheVariants.{Implied, Choice}
use Rattle.search.specs.declared.state.State.{State}
use Rattle.search.specs.declared.mood.Mood.TheVariants.{Backing}
use Rattle.search.proofs.Moments.{pop_room, pop_implied, backed_none, backed_implied, backed_choice, choice_names}
use Rattle.search.proofs.state.State.back.Goals as goal
use Rattle.search.proofs.state.State.back.Goals.{In-Choice}

pub loop-entry-preserved : goal.loop-entry-preserved
loop-entry-preserved c =
    let n : newest_of c.loop-entry.self ≡ Some (Implied c.in-Implied.field-0) = cc in
    record {
      suits = subst (λ (s : State). Suits s Backing) (sym c.pop.ensures.leaves) (pop_implied c.loop-entry.self c.loop-entry.invariant.suits c.in-Implied.field-0 n);
      backs = ap (λ s. backed (newest_first s) s) c.pop.ensures.leaves ∙ sym (backed_implied c.loop-entry.self c.in-Implied.field-0 n) ∙ c.loop-entry.invariant.backs;
    }

newest : (c : In-Choice) → newest_of c.loop-entry.self ≡ Some (Choice c.in-Choice.literal)
newest c = cc

names : (c : In-Choice) → Names c.loop-entry.self.question.variables c.in-Choice.literal
names c = choice_names c.loop-entry.self c.loop-entry.invariant.suits c.in-Choice.literal (newest c)

pub overflow_sub-literal : goal.overflow_sub-literal
overflow_sub-literal c =
    let n : _ = names ((goal.at.overflow_sub-literal c).In-Choice) in
    let f : SFits w16 c.in-Choice.literal = search rules in
    omega (arith, ints, n.1, c.loop-entry.invariant.suits.0.bounded)

pub push-requires : goal.push-requires
push-requires c =
    subst (λ (s : State). length s.trail.items < LARGEST + 1) (sym c.pop.ensures.leaves)
    (pop_room c.loop-entry.self c.loop-entry.invariant.suits.0 (Choice c.in-Choice.literal) (newest ((goal.at.push-requires c).In-Choice)))

pub returns-in-Choice : goal.returns-in-Choice
returns-in-Choice c =
    let h : In-Choice = (goal.at.returns-in-Choice c).In-Choice in
    let n : _ = names h in
    let f : SFits w16 c.in-Choice.literal = search rules in
    let e : to_z w16 (of_z w16 (pos 0 -ℤ to_z w16 (of_z w16 c.in-Choice.literal))) ≡ neg_ℤ c.in-Choice.literal = omega (arith, ints, n.1, c.loop-entry.invariant.suits.0.bounded) in
    let t : c.push.new.self ≡ pushed (popped c.loop-entry.self) (Implied (neg_ℤ c.in-Choice.literal)) =
    c.push.ensures ∙ ap (λ z. pushed c.pop.new.self (Implied z)) e ∙ ap (λ s. pushed s (Implied (neg_ℤ c.in-Choice.literal))) c.pop.ensures.leaves in
    let b : _ = sym (backed_choice c.loop-entry.self c.in-Choice.literal (newest h)) ∙ c.loop-entry.invariant.backs in
    record { answers = ap (λ m. m.1) b; leaves = t ∙ ap (λ m. m.0) b }

pub returns : goal.returns
returns c =
    let n : newest_of c.loop-entry.self ≡ None = cc in
    let b : _ = sym (backed_none c.loop-entry.self n) ∙ c.loop-entry.invariant.backs in
    record { answers = ap (λ m. m.1) b; leaves = c.pop.ensures.leaves ∙ ap (without c.loop-entry.self) n ∙ ap (λ m. m.0) b }
