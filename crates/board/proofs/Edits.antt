-- A list of edits, one after the other.
use Rattle.std.proofs.Common.{◌≡◌, ℕ, ◌+◌, ◌<◌, ◌≤◌, Bool, true, false, cond, List, length, get_or, drop, is_some, is_err, Some, None, Option, sym, refl, ap, ◌∙◌, arith}
use Rattle.std.proofs.lemmas.List.{at_drop_more}
use Rattle.board.specs.Held.{Held, after, after_all, answer, judged, refused_in}
use Rattle.board.specs.declared.edit.Edit.{Edit}
use Rattle.board.specs.declared.refusal.Refusal.{Refusal}

-- i edits are done: what is left of the list, from what is held now, gives what the whole list gives from the start
pub record Going (start : Held) (edits : List Edit) (held : Held) (refused i : ℕ) : Type 0 where
  pub counts : refused + refused_in held (drop i edits) ≡ refused_in start edits
  pub leaves : after_all held (drop i edits) ≡ after_all start edits
  pub few : refused ≤ i

err_is : (o : Option Refusal) → is_err (answer o) ≡ is_some o
err_is None = refl
err_is (Some e) = refl

at_most_one : (b : Bool) → cond {A = ℕ} b 1 0 ≤ 1
at_most_one true = omega arith
at_most_one false = omega arith

pub going_more : (start : Held) (edits : List Edit) (held held' : Held) (refused refused' i : ℕ) (d : Edit) → i < length edits →
    held' ≡ after held (get_or edits i d) → refused' ≡ refused + cond (is_err (answer (judged held (get_or edits i d)))) 1 0 →
    Going start edits held refused i → Going start edits held' refused' (i + 1)
going_more start edits held held' refused refused' i d h e n inv =
    let b : ◌≡◌ {A = ℕ} (cond (is_err (answer (judged held (get_or edits i d)))) 1 0) (cond (is_some (judged held (get_or edits i d))) 1 0) = ap (λ t. cond t 1 0) (err_is (judged held (get_or edits i d))) in
    let r : refused_in held (drop i edits) ≡ cond (is_some (judged held (get_or edits i d))) 1 0 + refused_in (after held (get_or edits i d)) (drop (i + 1) edits) = at_drop_more (refused_in held) edits i d h in
    let s : refused_in held' (drop (i + 1) edits) ≡ refused_in (after held (get_or edits i d)) (drop (i + 1) edits) = ap (λ x. refused_in x (drop (i + 1) edits)) e in
    let a : after_all held (drop i edits) ≡ after_all (after held (get_or edits i d)) (drop (i + 1) edits) = at_drop_more (after_all held) edits i d h in
    let one = at_most_one (is_some (judged held (get_or edits i d))) in
    record { counts = omega (arith, inv.counts); leaves = ap (λ x. after_all x (drop (i + 1) edits)) e ∙ sym a ∙ inv.leaves; few = omega (arith, inv.few) }
