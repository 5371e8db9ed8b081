use Rattle.std.proofs.Common.{◌≡◌, ap, ◌∙◌, w16, SFits, rules}
use Rattle.std.proofs.lemmas.Int.{to_z-of_z}
use Rattle.scan.specs.Edits.{assigned}
use Rattle.search.specs.States.{literal_of, moved}
use Rattle.search.proofs.state.State.push.Goals as goal

pub returns : goal.returns
returns c =
    let f : SFits w16 c.literal.result = search rules in
    let e : c.assign.new.self ≡ assigned c.args.self.now.values c.literal.result = simp to_z-of_z at c.assign.ensures in
    ap (λ v. moved c.args.self.now v c.push.new.self.items) (e ∙ ap (assigned c.args.self.now.values) c.literal.ensures)
    ∙ ap (moved c.args.self.now (assigned c.args.self.now.values (literal_of c.args.entry))) c.push.ensures.items
