use Rattle.std.proofs.Common.{◌≡◌, Some, sym, ◌∙◌, w16, SFits, rules}
use Rattle.std.proofs.lemmas.Int.{to_z-of_z}
use Rattle.scan.specs.declared.round.Telling.TheVariants.{Forced}
use Rattle.search.specs.States.{pushed}
use Rattle.search.specs.declared.state.Entry.TheVariants.{Implied}
use Rattle.search.proofs.Moments.{step_room, step_forced}
use Rattle.search.proofs.state.State.step.Goals as goal

pub push-requires : goal.push-requires
push-requires c =
    let f : c.observe-found.result ≡ Some (Forced c.in-Forcing-Some-Forced.literal) = cc in
    step_room c.args.self.now c.args.mood c.in-Forcing-Some-Forced.literal c.in-Forcing-Some-Forced.is-0 (sym f ∙ c.observe-found.ensures.answers)
    c.observe-found.new.self c.observe-found.ensures.leaves c.requires

pub returns-in-Forcing-Some-Forced-clause-leaves : goal.returns-in-Forcing-Some-Forced-clause-leaves
returns-in-Forcing-Some-Forced-clause-leaves c =
    let f : c.observe-found.result ≡ Some (Forced c.in-Forcing-Some-Forced.literal) = cc in
    let w : SFits w16 c.in-Forcing-Some-Forced.literal = search rules in
    let p : c.push.new.self ≡ pushed c.observe-found.new.self (Implied c.in-Forcing-Some-Forced.literal) = simp to_z-of_z at c.push.ensures in
    p ∙ step_forced c.args.self.now c.args.mood c.in-Forcing-Some-Forced.literal c.in-Forcing-Some-Forced.is-0 (sym f ∙ c.observe-found.ensures.answers)
    c.observe-found.new.self c.observe-found.ensures.leaves
