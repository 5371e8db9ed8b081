use Rattle.std.proofs.Common.{◌≡◌, ℕ, ◌+◌, ◌-◌, ◌<◌, length, take, ap, ◌∙◌, sym, subst, arith}
use Rattle.std.proofs.lemmas.List.{take_all}
use Rattle.board.specs.Held.{Held}
use Rattle.board.specs.Laws.{Lawful}
use Rattle.board.specs.Views.{held_in}
use Rattle.clauses.specs.Ranks.{Ranks, Sized}
use Rattle.clauses.specs.declared.ranking.Ranking.{Ranking}
use Rattle.clauses.proofs.Ranks.{few_loads, ranks_below, ranks_gap, ranks_net, ranks_room, row_at}
use Rattle.clauses.proofs.ranking.Ranking.of.Goals as goal
use Rattle.clauses.proofs.ranking.Ranking.of.Goals.{in-Some, in_default}

pub enter-requires : goal.enter-requires
enter-requires c =
    let rows = (held_in c.rack-rack.result.now).rows in
    let lawful = c.rack-rack.ensures.lawful in
    let place = c.loop-number.number - 1 in
    let inside : c.loop-number.number - 1 < length (held_in c.rack-rack.result.now).rows = omega (arith, lawful.numbers) in
    let row = row_at rows c.loop-number.number c.net.result (omega arith) (omega arith) c.net.ensures ∙ c.in-Some.is in
    record {
      held = ranks_below rows place inside c.in-Some.net row c.loop-number.ranking c.loop-number.invariant.1 (omega (arith, lawful.numbers));
      room = ranks_room rows place inside c.in-Some.net row c.loop-number.ranking c.loop-number.invariant.1 (few_loads (held_in c.rack-rack.result.now) lawful);
    }

pub loop-number-preserved : goal.loop-number-preserved
loop-number-preserved c =
    let held = held_in c.rack-rack.result.now in
    let rows = (held_in c.rack-rack.result.now).rows in
    let number = c.loop-number.number in
    let inside : c.loop-number.number - 1 < length (held_in c.rack-rack.result.now).rows = omega (arith, c.rack-rack.ensures.lawful.numbers) in
    let next : c.loop-number.number - 1 + 1 ≡ c.loop-number.number + 1 - 1 = omega arith in
    let row = row_at rows number c.net.result (omega arith) (omega arith) c.net.ensures in
    let P : Ranking → Type 0 = λ ranking. Sized (held_in c.rack-rack.result.now) ranking × Ranks (take (c.loop-number.number + 1 - 1) (held_in c.rack-rack.result.now).rows) ranking in
    elim c.match-net.branch [
      | in-Some w ↦
          let Q : ℕ → Type 0 = λ n. Ranks (take n (held_in c.rack-rack.result.now).rows) w.enter.new.self in
          subst P (sym w.ranking-is) (
            record {
              chips = ap (λ s. s.chips) w.enter.ensures.sizes ∙ c.loop-number.invariant.0.chips;
              fpics = ap (λ s. s.fpics) w.enter.ensures.sizes ∙ c.loop-number.invariant.0.fpics;
              pins = ap (λ s. s.pins) w.enter.ensures.sizes ∙ c.loop-number.invariant.0.pins;
            },
            subst Q next (ranks_net rows (number - 1) inside w.in-Some.net (row ∙ w.in-Some.is) c.loop-number.ranking c.loop-number.invariant.1 w.enter.new.self w.enter.ensures.nets w.enter.ensures.lists),
          )
      | in_default w ↦
          let Q : ℕ → Type 0 = λ n. Ranks (take n (held_in c.rack-rack.result.now).rows) c.loop-number.ranking in
          subst P (sym w.ranking-is) (c.loop-number.invariant.0, subst Q next (ranks_gap rows (number - 1) inside c.loop-number.ranking (row ∙ w.in_default.is) c.loop-number.invariant.1))
    ]

pub returns : goal.returns
returns c =
    let rows = (held_in c.rack-rack.result.now).rows in
    let same = c.rack-rack.ensures.same in
    let lawful = c.rack-rack.ensures.lawful in
    let HasSizes : Held → Type 0 = λ held. Sized held c.loop-number.ranking in
    let HasRanks : Held → Type 0 = λ held. Ranks held.rows c.loop-number.ranking in
    record {
      lawful = subst Lawful same lawful;
      sized = subst HasSizes same c.loop-number.invariant.0;
      ranks = subst HasRanks same (subst (λ l. Ranks l c.loop-number.ranking) (take_all (c.loop-number.number - 1) rows (omega (arith, lawful.numbers))) c.loop-number.invariant.1);
    }
