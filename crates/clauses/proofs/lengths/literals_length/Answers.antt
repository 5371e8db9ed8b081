use Rattle.std.proofs.Common.{◌≡◌, get_or, length, sum_by, sym, ◌∙◌, arith, rules, w16, SFits}
use mir.Val.{to_z, of_z}
use Rattle.std.proofs.iter.runs.Made.{chains}
use Rattle.std.proofs.lemmas.List.Sums.{sum_by-le}
use Rattle.std.proofs.lemmas.List.Concat.{length-flat_map}
use Rattle.std.specs.List.{All}
use Rattle.clauses.specs.Text.{spelled}
use Rattle.clauses.proofs.Totals.{spelled_length, spelled_short, sum_of_read}
use Rattle.clauses.proofs.lengths.literals_length.Goals as goal

pub returns : goal.returns
returns c =
    let literals = c.args.literals.now in
    let fits : All (SFits w16) literals = λ i d h. search rules in
    let read : c.sum.result ≡ sum_by (λ z. length (spelled (to_z w16 (of_z w16 z)))) literals = search (rules, chains) in
    let total = read ∙ sum_of_read literals fits in
    let most = sum_by-le spelled_length 7 literals (λ i d h. spelled_short (get_or literals i d) (fits i d h)) in
    record { value = total ∙ sym (length-flat_map spelled literals); bound = omega (arith, total, c.requires, most) }
