-- One line read and applied to a board.
use Rattle.std.proofs.Common.{◌≡◌, Some, None, Ok, Err, Option, Result, MatchResult, sym, refl, ap, ◌∙◌, subst}
use Rattle.std.specs.Option.{option_map}
use Rattle.std.specs.Result.{IsErrAnd}
use Rattle.board.specs.Held.{Held, judged, changed, after, answer, unless_refused}
use Rattle.board.specs.declared.edit.Edit.{Edit}
use Rattle.board.specs.declared.refusal.Refusal.{Refusal}
use Rattle.netlist.specs.Lines.{Line, edit_of}
use Rattle.netlist.specs.Place.{GoesOn, NextLine, Acts}
use Rattle.netlist.specs.declared.fault.Fault.{Fault}
use Rattle.netlist.specs.declared.fault.Fault.TheVariants.{Declined}
use Rattle.netlist.specs.declared.reader.Reader.{Reader}

next_some : {here next : Reader} {edit : Edit} → NextLine here (Some edit) next → (line : Line) × GoesOn here (Some line) next × (edit ≡ edit_of line)
next_some {here} {next} {edit} n = by n.0 n.1 n.2
  where
    by : (o : Option Line) → GoesOn here o next → Some edit ≡ option_map edit_of o → (line : Line) × GoesOn here (Some line) next × (edit ≡ edit_of line)
    by (Some line) g e = (line, g, (cc))
    by None g e = cc

-- the board's answer to the line's edit, whose refusal is told as a fault of the line
module _ {here next : Reader} {edit : Edit} {found : Option Edit} (read : NextLine here found next) (finds : found ≡ Some edit) (held held' : Held) (leaves : held' ≡ after held edit) where
  line : (line : Line) × GoesOn here (Some line) next × (edit ≡ edit_of line)
  line = next_some (subst (λ o. NextLine here o next) finds read)

  pub acts : {answered : Result (Unit {0}) Refusal} {Told : Refusal → Fault → Type 0} (r : Result (Unit {0}) Fault) → answered ≡ answer (judged held edit) →
      MatchResult answered (λ x. r ≡ Ok x) (λ cause. IsErrAnd r (Told cause)) → ((cause : Refusal) (fault : Fault) → Told cause fault → fault ≡ Declined here.line cause) → Acts here held r next held'
  acts {Told = Told} r answers tells told = by (judged held edit) r refl (subst (λ a. MatchResult a (λ x. r ≡ Ok x) (λ cause. IsErrAnd r (Told cause))) answers tells)
    where
      by : (o : Option Refusal) (s : Result (Unit {0}) Fault) → judged held edit ≡ o → MatchResult (answer o) (λ x. s ≡ Ok x) (λ cause. IsErrAnd s (Told cause)) → Acts here held s next held'
      by None s j m = subst (λ s. Acts here held s next held') (sym m) (line.0, line.1, ap (judged held) (sym line.2) ∙ j, leaves ∙ ap (after held) line.2)
      by (Some cause) (Ok x) j m = absurd m
      by (Some cause) (Err fault) j m =
          let declines : Acts here held (Err (Declined here.line cause)) next held' = (refl, (line.0, line.1, ap (judged held) (sym line.2) ∙ j), leaves ∙ ap (λ o. unless_refused o (changed held edit) held) j) in
          subst (λ f. Acts here held (Err f) next held') (sym (told cause fault m)) declines
