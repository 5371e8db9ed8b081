use Rattle.std.proofs.Common.{◌≡◌, ◌^◌, ◌<◌, ◌≤◌, true, Some, sym, refl, ap, ◌∙◌, arith, rules}
use Rattle.std.proofs.lemmas.Bool.{and_from}
use Rattle.board.specs.Held.{lowest_full}
use Rattle.board.specs.Rows.{are_ends}
use Rattle.board.specs.Views.{held_open}
use Rattle.board.proofs.Full.{all_have_room, full_inside}
use Rattle.board.proofs.Laws.{lowest_full_end}
use Rattle.board.proofs.Rows.{good_kept, load_room}
use Rattle.board.proofs.open.OpenBoard.add.Goals as goal

pub invariant_of-self : goal.invariant_of-self
invariant_of-self c =
    let fit : are_ends c.args.self.now.rack.sizes.chips c.args.ends ≡ true = sym c.are_ends.ensures ∙ c.if-not-are_ends.false in
    let small : c.args.ends < 2 ^ 32 = search rules in
    record {
      good = good_kept _ _ _ _ _ _ c.set.ensures (and_from (are_ends c.args.self.now.rack.sizes.chips c.args.ends) true fit refl) c.args.self.now.rack.good;
      loads = load_room _ _ _ _ _ c.set.ensures (all_have_room _ _ c.args.ends small (sym c.lowest_full.ensures ∙ c.in_default.is)) c.args.self.now.rack.loads;
    }

pub returns-in-Some-clause-names : goal.returns-in-Some-clause-names
returns-in-Some-clause-names c =
    let f : Some c.in-Some.chip ≡ lowest_full (held_open c.args.self.now) c.args.ends = c.in-Some.ensures in
    λ chip e.
    let same : c.in-Some.chip ≡ chip = cc in
    lowest_full_end (held_open c.args.self.now) c.args.ends chip c.args.self.now.rack.loads (sym f ∙ ap Some same)

pub overflow_cast-result : goal.overflow_cast-result
overflow_cast-result c =
    let small : c.args.ends < 2 ^ 32 = search rules in
    let inside : c.in-Some.chip ≤ 32 = full_inside _ _ c.args.ends c.in-Some.chip small (sym c.in-Some.ensures) in
    omega arith
