use Rattle.std.proofs.Common.{ℕ, ◌*◌, leb, sym, ◌∙◌, rules, tests}
use Rattle.std.proofs.lemmas.Iterator.Adapters.{option_map_id}
use Rattle.std.proofs.lemmas.Iterator.Consumers.{YieldsList-from_first}
use Rattle.std.proofs.lemmas.Iterator.Search.{find_from_yields_List}
use Rattle.board.specs.Rows.{chips_of, load, lowest_full_in}
use Rattle.board.proofs.rack.Rack.lowest_full.Goals as goal

pub returns : goal.returns
unfolding lowest_full_in
returns c =
    sym (option_map_id c.find.result)
    ∙ find_from_yields_List (λ chip. leb (c.args.self.now.sizes.fpics * c.args.self.now.sizes.pins) (load chip c.args.self.now.table.rows)) _ _ _ c.find.ensures.ran
    (YieldsList-from_first (λ (x : ℕ). x) (λ chips. chips) (chips_of c.args.ends) c.of.ensures) (λ x b q k. search (rules, tests))
