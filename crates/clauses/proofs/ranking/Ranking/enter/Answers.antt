use Rattle.std.proofs.Common.{◌≡◌, ℕ, ◌+◌, ◌-◌, ◌^◌, ◌<◌, true, cond, List, [], ◌∷◌, ◌++◌, refl, sym, ap, ◌∙◌, subst, arith, rules}
use Rattle.std.proofs.lemmas.List.{append-nil}
use Rattle.std.specs.List.{All}
use Rattle.board.proofs.Ends.{end_low, end_high}
use Rattle.board.specs.Rows.{chips_of, has_end}
use Rattle.clauses.specs.Ranks.{ranks_at}
use Rattle.clauses.proofs.Marks.{chips_are_ends, first_end, mark_more, mark_room, marks, marks_all, other_ends}
use Rattle.clauses.proofs.ranking.Ranking.enter.Goals as goal

pub loop-chip-init : goal.loop-chip-init
loop-chip-init c =
    let ends = c.args.net.ends in
    let small : ends < 2 ^ 32 = search rules in
    let all : c.into_iter-chip-iterator.result ≡ chips_of ends = c.into_iter-chip-iterator.ensures.into_iter_gives ∙ c.chips-chip-items.ensures in
    let Ends : List ℕ → Type 0 = λ chips. All (λ chip. has_end ends chip ≡ true) chips in
    (refl, refl, subst Ends (sym all) (chips_are_ends ends), λ place. ap (λ l. ranks_at c.args.self.now place ++ l) (ap (marks c.args.self.now.nets place) all ∙ marks_all ends c.args.self.now.nets place small))

pub overflow_sub-chip : goal.overflow_sub-chip
overflow_sub-chip c =
    end_low c.args.net.ends c.in-Some.chip (first_end c.args.net.ends c.in-Some.chip c.loop-chip.chip-iterator c.next.new.self c.loop-chip.invariant.2 c.in-Some.ensures.steps)

pub push-requires : goal.push-requires
push-requires c =
    let ends = c.args.net.ends in
    let chip = c.in-Some.chip in
    let small : ends < 2 ^ 32 = search rules in
    let first = c.in-Some.ensures.steps in
    let end = first_end ends chip c.loop-chip.chip-iterator c.next.new.self c.loop-chip.invariant.2 first in
    let low = end_low ends chip end in
    let back : chip ≡ chip - 1 + 1 = omega arith in
    let marked = ap (λ l. ranks_at c.loop-chip.self (chip - 1) ++ marks c.args.self.now.nets (chip - 1) l) (sym first) ∙ c.loop-chip.invariant.3 (chip - 1) in
    record {
      place = omega (arith, low, end_high 32 ends chip small end);
      room = mark_room (ranks_at c.loop-chip.self (chip - 1)) (ranks_at c.args.self.now (chip - 1)) c.next.new.self c.args.self.now.nets chip (has_end ends (chip - 1 + 1)) low marked
          (c.requires.room (chip - 1) (ap (has_end ends) (sym back) ∙ end));
    }

pub loop-chip-preserved : goal.loop-chip-preserved
loop-chip-preserved c =
    let ends = c.args.net.ends in
    let chip = c.in-Some.chip in
    let rest = c.next.new.self in
    let rank = c.args.self.now.nets in
    let first = c.in-Some.ensures.steps in
    let low = end_low ends chip (first_end ends chip c.loop-chip.chip-iterator rest c.loop-chip.invariant.2 first) in (
      c.push.ensures.sizes ∙ c.loop-chip.invariant.0,
      c.push.ensures.nets ∙ c.loop-chip.invariant.1,
      other_ends ends chip c.loop-chip.chip-iterator rest c.loop-chip.invariant.2 first,
      λ place.
          mark_more (ranks_at c.loop-chip.self place) (ranks_at c.push.new.self place) (ranks_at c.args.self.now place ++ cond (has_end ends (place + 1)) (rank ∷ []) []) rest rank place chip low
          (c.push.ensures.lists place) (ap (λ l. ranks_at c.loop-chip.self place ++ marks rank place l) (sym first) ∙ c.loop-chip.invariant.3 place),
    )

pub returns : goal.returns
returns c =
    let rank = c.args.self.now.nets in
    record {
      sizes = c.loop-chip.invariant.0;
      nets = ap (λ n. n + 1) c.loop-chip.invariant.1;
      lists = λ place.
          sym (append-nil (ranks_at c.loop-chip.self place)) ∙ ap (λ l. ranks_at c.loop-chip.self place ++ marks rank place l) (sym c.in-None.ensures.steps.0) ∙ c.loop-chip.invariant.3 place;
    }
