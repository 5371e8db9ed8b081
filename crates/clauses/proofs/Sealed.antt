-- A board's formula and text: how long they are, and that the text is the formula's. What holds of every board comes from the theory of plans.
use Rattle.std.proofs.Common.{◌≡◌, ◌+◌, List, [], ◌∷◌, ◌++◌, length, ℤ, pos, sum_by, sym, refl, ap, ◌∙◌, ap₂, arith}
use Rattle.std.proofs.lemmas.List.{length-append}
use Rattle.std.proofs.lemmas.List.Sums.{sum_by-cons}
use Rattle.std.specs.List.{flat_map}
use Rattle.sat.specs.Formula.{encode}
use Rattle.board.specs.Held.{Held}
use Rattle.board.proofs.Laws.{lawful_rack}
use Rattle.board.specs.Laws.{Lawful}
use Rattle.board.specs.Measure.{measured}
use Rattle.board.specs.Views.{held_sealed}
use Rattle.board.specs.declared.measure.Measure.{Measure}
use Rattle.board.specs.declared.sealed.SealedBoard.{SealedBoard}
use Rattle.plans.proofs.Board.{board_laws}
use Rattle.plans.specs.Clauses.{clauses}
use Rattle.plans.specs.Laws.{BoardLaws}
use Rattle.plans.proofs.Meaning.{no_zero}
use Rattle.clauses.specs.Blocks.{all_blocks}
use Rattle.clauses.specs.Formulas.{formula_of}
use Rattle.clauses.specs.Ranks.{Ranks, Sized}
use Rattle.clauses.specs.Text.{head_of, line_of, printed, text_of}
use Rattle.clauses.specs.declared.ranking.Ranking.{Ranking}
use Rattle.clauses.proofs.Assembly.{assembled}
use Rattle.clauses.proofs.Spelling.{printed-encode}

-- every board has the laws of boards
pub sealed_lawful : (board : SealedBoard) → Lawful (held_sealed board)
sealed_lawful board = lawful_rack board.rack

pub sealed_laws : (board : SealedBoard) → BoardLaws (held_sealed board)
sealed_laws board = board_laws (held_sealed board) (sealed_lawful board)

-- a number for each literal, and a 0 for each clause
length-encode : (clauses : List (List ℤ)) → length (encode clauses) ≡ sum_by length clauses + length clauses
length-encode [] = refl
length-encode (clause ∷ clauses) = omega (arith, length-append clause (pos 0 ∷ encode clauses), length-encode clauses, sum_by-cons length clause clauses)

-- the numbers of all blocks are the formula
pub formula_is : (ranking : Ranking) (held : Held) → Sized held ranking → Ranks held.rows ranking → encode (all_blocks ranking) ≡ formula_of held
unfolding formula_of
formula_is ranking held sized ranks = ap encode (assembled ranking held sized ranks)

module _ (held : Held) (laws : BoardLaws held) (measure : Measure) (measures : measure ≡ measured held) where
  pub length_formula : measure.literals + measure.clauses ≡ length (formula_of held)
  unfolding formula_of
  length_formula =
      let counted = laws.counted in
      omega (arith, length-encode (clauses held), ap (λ m. m.clauses) measures ∙ counted.clause_count, ap (λ m. m.literals) measures ∙ counted.literal_count)

  -- the first line has the counts that the board is measured with, and the formula gives the lines, number by number
  pub text_is : text_of held ≡ head_of measure.variables measure.clauses ++ flat_map printed (formula_of held)
  unfolding text_of formula_of
  text_is =
      let counted = laws.counted in
      ap₂ (λ head lines. head ++ lines)
      (sym (ap₂ head_of (ap (λ m. m.variables) measures ∙ counted.variable_count) (ap (λ m. m.clauses) measures ∙ counted.clause_count)))
      (sym (printed-encode (clauses held) (no_zero held)))

  pub length_text : length (text_of held) ≡ length (head_of measure.variables measure.clauses) + length (flat_map line_of (clauses held))
  unfolding formula_of
  length_text =
      ap length text_is ∙ length-append (head_of measure.variables measure.clauses) (flat_map printed (formula_of held))
      ∙ ap (λ l. length (head_of measure.variables measure.clauses) + length l) (printed-encode (clauses held) (no_zero held))
