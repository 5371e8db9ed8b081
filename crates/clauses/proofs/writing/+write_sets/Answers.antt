use Rattle.std.proofs.Common.{◌≡◌, ℕ, ◌-◌, [], ◌∷◌, ◌++◌, length, get_or, pos, sym, ap, ◌∙◌, arith, w16, SFits, rules}
use Rattle.std.proofs.lemmas.Int.{to_z-of_z}
use Rattle.std.specs.List.{between}
use Rattle.std.proofs.lemmas.List.{length-append}
use Rattle.clauses.specs.Sets.{set_numbers}
use Rattle.clauses.proofs.Filling.{room_behind, writes_as, writes_more, writes_none}
use Rattle.clauses.proofs.Sets.{popped, sets_none, sets_short, sets_split}
use Rattle.clauses.proofs.writing.+write_sets.Goals as goal
use Rattle.clauses.proofs.writing.+write_sets.Goals.{After-push, After-pop}

pub write_clause-requires : goal.write_clause-requires
write_clause-requires t c =
    let e = sets_none c.args.front.now.items c.args.size c.args.literals.now c.if-size-eq0.true in
    omega (arith, c.requires.fits, simp length-append at (ap length e), ap length c.as_slice.ensures.value)

pub returns-then-size-eq0-clause-writes : goal.returns-then-size-eq0-clause-writes
returns-then-size-eq0-clause-writes t c =
    writes_as c.write_clause.ensures (ap (λ l. l ++ (pos 0 ∷ [])) c.as_slice.ensures.value ∙ sym (sets_none c.args.front.now.items c.args.size c.args.literals.now c.if-size-eq0.true))

pub returns-then-literals-size-clause-writes : goal.returns-then-literals-size-clause-writes
returns-then-literals-size-clause-writes t c = writes_as (writes_none c.args.out.now) (sym (sets_short c.args.front.now.items c.args.size c.args.literals.now c.if-literals-size.true))

-- the sets with the first literal, and then those without it
split : (t : ℕ) (c : After-push t) →
    set_numbers c.args.front.now.items c.args.size c.args.literals.now ≡
    set_numbers c.push.new.self.items (c.args.size - 1) (between 1 (length c.args.literals.now) c.args.literals.now) ++
    set_numbers c.args.front.now.items c.args.size (between 1 (length c.args.literals.now) c.args.literals.now)
split t c =
    let f : SFits w16 (get_or c.args.literals.now 0 (pos 0)) = search rules in
    let e : c.push.new.self.items ≡ c.args.front.now.items ++ (get_or c.args.literals.now 0 (pos 0) ∷ []) = simp to_z-of_z at c.push.ensures.items in
    let s = sets_split c.args.front.now.items c.args.size c.args.literals.now (omega arith) (omega arith) in
    cc

pub write_sets-count-requires : goal.write_sets-count-requires
write_sets-count-requires t c =
    let whole = split t (goal.at.write_sets-count-requires t c).After-push in
    (search rules, (omega (arith, c.push.ensures.len, c.requires.room), omega (arith, c.requires.fits, simp length-append at (ap length whole))))

-- the front is what it was
restored : (t : ℕ) (c : After-pop t) → c.pop.new.self.items ≡ c.args.front.now.items
restored t c = c.pop.ensures.rest ∙ popped c.args.front.now.items c.write_sets-count.new.front.items _ (c.write_sets-count.ensures.keeps ∙ c.push.ensures.items)

pub write_sets-requires : goal.write_sets-requires
write_sets-requires t c =
    let front = restored t (goal.at.write_sets-requires t c).After-pop in
    let rest = between 1 (length c.args.literals.now) c.args.literals.now in
    let whole = split t (goal.at.write_sets-requires t c).After-push ∙ ap (λ l. set_numbers c.push.new.self.items (c.args.size - 1) rest ++ set_numbers l c.args.size rest) (sym front) in
    (search rules, (omega (arith, ap length front, c.requires.room), room_behind c.write_sets-count.ensures.writes (set_numbers c.pop.new.self.items c.args.size rest) (omega (arith, c.requires.fits, ap length whole))))

pub returns-clause-writes : goal.returns-clause-writes
returns-clause-writes t c =
    let front = restored t (goal.at.returns-clause-writes t c).After-pop in
    let rest = between 1 (length c.args.literals.now) c.args.literals.now in
    let whole = split t (goal.at.returns-clause-writes t c).After-push ∙ ap (λ l. set_numbers c.push.new.self.items (c.args.size - 1) rest ++ set_numbers l c.args.size rest) (sym front) in
    writes_as (writes_more c.write_sets-count.ensures.writes c.write_sets.ensures.writes) (sym whole)
