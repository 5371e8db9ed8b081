use Rattle.std.proofs.Common.{◌≡◌, nat_abs, ap, ◌∙◌, w16, SFits, rules}
use Rattle.std.proofs.lemmas.Int.{to_z-of_z}
use Rattle.scan.specs.Edits.{put}
use Rattle.scan.specs.declared.value.Value.TheVariants.{Open}
use Rattle.search.specs.States.{literal_of, moved, without}
use Rattle.search.proofs.state.State.pop.Goals as goal

pub returns-clause-leaves : goal.returns-clause-leaves
returns-clause-leaves c =
    let f : SFits w16 c.literal.result = search rules in
    let n : c.unsigned_abs.result ≡ nat_abs c.literal.result = simp to_z-of_z at c.unsigned_abs.ensures.value in
    let e : c.set.new.self ≡ put c.args.self.now.values (nat_abs (literal_of c.in_ok-entry.entry)) Open =
    c.set.ensures ∙ ap (λ k. put c.args.self.now.values k Open) (c.from-variable.ensures ∙ n ∙ ap nat_abs c.literal.ensures) in
    ap (λ v. moved c.args.self.now v c.pop.new.self.items) e
    ∙ ap (moved c.args.self.now (put c.args.self.now.values (nat_abs (literal_of c.in_ok-entry.entry)) Open)) c.in_ok-entry.ensures.rest
    ∙ ap (without c.args.self.now) c.in_ok-entry.ensures.value
