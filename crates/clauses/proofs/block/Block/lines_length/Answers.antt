use Rattle.std.proofs.Common.{◌+◌, ◌-◌, ◌*◌, length, sym, ap, ◌∙◌, ap₂, arith}
use Rattle.std.proofs.lemmas.Nat.{mul-le}
use Rattle.std.proofs.lemmas.List.Concat.{length-flat_map}
use Rattle.std.specs.List.{flat_map}
use Rattle.subsets.specs.Choose.{subset_count}
use Rattle.clauses.specs.Blocks.{clauses_in}
use Rattle.clauses.specs.Text.{line_of, spelled}
use Rattle.clauses.proofs.Sets.{choose_short}
use Rattle.clauses.proofs.Totals.{length-set_lines}
use Rattle.clauses.proofs.block.Block.lines_length.Goals as goal

pub returns-then-count-self-clause-value : goal.returns-then-count-self-clause-value
unfolding clauses_in
returns-then-count-self-clause-value c =
    let block = c.args.self.now in
    sym (ap (λ l. length (flat_map line_of l)) (choose_short block.size block.literals.items (omega (arith, c.if-count-self.true, c.len-count.ensures.value))))

pub returns : goal.returns
unfolding clauses_in
returns c =
    let block = c.args.self.now in
    let literals = c.args.self.now.literals.items in
    let count = c.len-count.ensures.value in
    let long = length-set_lines block.size literals block.some (omega (arith, c.if-count-self.false, count, block.some)) in
    let each = c.set_count-each.ensures.value ∙ ap (λ d. subset_count (d - 1) (block.size - 1)) count in
    let width = c.literals_length.ensures.value ∙ ap (λ l. length (flat_map spelled l)) c.as_slice.ensures.value ∙ length-flat_map spelled literals in
    let sets = c.set_count-sets.ensures.value ∙ ap (λ d. subset_count d block.size) count in
    record {
      value = ap₂ (λ a b. a + 2 * b) (ap₂ (λ a b. a * b) each width) sets ∙ sym long;
      bound = omega (arith, c.set_count-sets.ensures.bound, mul-le c.set_count-each.result c.literals_length.result 201376 224 c.set_count-each.ensures.bound c.literals_length.ensures.bound);
    }
