use Rattle.std.proofs.Common.{◌≡◌, ◌++◌, ◌<◌, length, sym, ap, ◌∙◌, arith}
use Rattle.std.proofs.lemmas.List.{length-append}
use Rattle.std.specs.List.{range_with_len, flat_map}
use Rattle.sat.specs.Formula.{encode}
use Rattle.clauses.specs.Blocks.{block_count, clauses_in}
use Rattle.clauses.proofs.Assembly.{numbers_at, numbers_are, numbers_all}
use Rattle.clauses.proofs.Filling.{room_behind, writes_as, writes_more}
use Rattle.clauses.proofs.Joins.{joined_more, joined_room}
use Rattle.clauses.proofs.ranking.Ranking.write.Goals as goal
use Rattle.clauses.proofs.ranking.Ranking.write.Goals.{After-block}

-- the numbers of the block of this turn
piece : (c : After-block) → encode (clauses_in c.block.result) ≡ numbers_at c.args.self.now c.loop-index.index
piece c = ap encode c.block.ensures ∙ sym (numbers_are c.args.self.now c.loop-index.index)

pub write-count-requires : goal.write-count-requires
write-count-requires c =
    let size : c.loop-index.index < block_count c.args.self.now = omega (arith, c.block_count-index-end.ensures) in
    let block = piece (goal.at.write-count-requires c).After-block in
    room_behind c.loop-index.invariant (encode (clauses_in c.block.result))
    (simp length-append (omega (arith, c.requires, ap length block, joined_room (numbers_at c.args.self.now) c.loop-index.index (block_count c.args.self.now) size, ap length (numbers_all c.args.self.now))))

pub loop-index-preserved : goal.loop-index-preserved
loop-index-preserved c =
    let numbers = numbers_at c.args.self.now in
    let i = c.loop-index.index in
    writes_as (writes_more c.loop-index.invariant c.write-count.ensures)
    (ap (λ l. flat_map numbers (range_with_len 0 i) ++ l) (piece (goal.at.loop-index-preserved c).After-block) ∙ sym (joined_more numbers i))

pub returns : goal.returns
returns c =
    let n : c.loop-index.index ≡ block_count c.args.self.now = omega (arith, c.block_count-index-end.ensures) in
    writes_as c.loop-index.invariant (ap (λ m. flat_map (numbers_at c.args.self.now) (range_with_len 0 m)) n ∙ numbers_all c.args.self.now)
