-- How a search begins, and what it has found where it ended.
use Rattle.std.proofs.Common.{◌≡◌, ℕ, ◌+◌, ◌≤◌, true, false, ◌&&◌, List, [], replicate, ℤ, Some, None, sym, subst, arith}
use Rattle.std.specs.List.{AllByRecursion}
use Rattle.std.proofs.ByRecursion.{All-weaker}
use Rattle.std.proofs.lemmas.Bool.{and_parts, both_ways}
use Rattle.sat.specs.Formula.{within, literals, closed}
use Rattle.sat.specs.Question.{well_formed}
use Rattle.sat.specs.declared.question.Question.{Question}
use Rattle.sat.specs.declared.question.Verdict.TheVariants.{Yes}
use Rattle.scan.specs.Values.{Agrees}
use Rattle.scan.specs.Edits.{assumed as assumed_on, unopposed}
use Rattle.scan.specs.declared.value.Value.{Value}
use Rattle.scan.specs.declared.value.Value.TheVariants.{Open}
use Rattle.scan.specs.declared.values.Values.{Values}
use Rattle.scan.proofs.Agreement.{agrees_open}
use Rattle.scan.proofs.Answering.{off_models}
use Rattle.scan.proofs.Assuming.{assumed_agrees, agrees_unopposed, unopposed-true}
use Rattle.scan.proofs.Literals.{Names, literals_name}
use Rattle.scan.specs.declared.values.TheConstants.{LARGEST}
use Rattle.search.specs.Answers.{Answering}
use Rattle.search.specs.States.{newest_first, started}
use Rattle.search.specs.Suiting.{Sound, Going, Suits}
use Rattle.search.specs.declared.state.State.{State}
use Rattle.search.specs.declared.mood.Mood.TheVariants.{Ended}
use Rattle.search.proofs.Trails.{sound_kept}

-- the literals of a well formed question
module _ (v : ℕ) (formula assumed : List ℤ) (formed : well_formed v formula assumed ≡ true) where
  behind : ((within v formula ≡ true) × ((within v assumed && literals assumed) ≡ true))
  behind = and_parts (within v formula) (within v assumed && literals assumed) (and_parts (closed formula) (within v formula && (within v assumed && literals assumed)) formed).1

  named_is : AllByRecursion (Names v) assumed
  named_is = let p : _ = and_parts (within v assumed) (literals assumed) behind.1 in literals_name v assumed p.0 p.1

-- a search that begins with the assumed literals on blank values
module _ (question : Question) (formed : well_formed question.variables question.formula.now question.assumed.now ≡ true) (blank : Values) (all : blank.slots ≡ replicate (LARGEST + 1) Open) where
  agrees_blank : (m : List ℕ) → Agrees blank.slots m
  agrees_blank m = subst (λ (w : List Value). Agrees w m) (sym all) (agrees_open (LARGEST + 1) m)

  -- opposed literals have no model
  pub opposed_none : unopposed blank question.assumed.now ≡ false → Answering question None
  opposed_none o m models =
      both_ways (unopposed blank question.assumed.now) o (agrees_unopposed blank question.assumed.now m models.kept (agrees_blank m))

  -- a search may begin
  pub begins : question.variables ≤ LARGEST → unopposed blank question.assumed.now ≡ true → (values : Values) → values ≡ assumed_on blank question.assumed.now → Going (started question values)
  begins bounded u values e =
      let named : AllByRecursion (Names question.variables) question.assumed.now = named_is question.variables question.formula.now question.assumed.now formed in
      let small : AllByRecursion (Names LARGEST) question.assumed.now =
      All-weaker (Names question.variables) (Names LARGEST) (λ z h. (h.0, omega (arith, h.1))) question.assumed.now named in
      record {
        bounded = bounded;
        inside = (behind question.variables question.formula.now question.assumed.now formed).0;
        named = named;
        sound = subst (λ (w : Values). Sound question w.slots []) (sym e)
            (unopposed-true blank question.assumed.now small u, λ m models. assumed_agrees blank question.assumed.now m models.kept (agrees_blank m));
      }

ended_yes : (s : State) → Suits s (Ended Yes) → Answering s.question (Some s.values)
ended_yes s h =
    off_models s.question.variables s.values.slots (omega (arith, h.0.bounded, s.values.long)) h.2 s.question.formula.now s.question.assumed.now h.0.inside h.0.named h.1
    (sound_kept s.question h.0.bounded s.values.slots (newest_first s) h.0.sound)

-- what a search has found that began with a question
pub found_yes : (question : Question) (t : State) → t.question ≡ question → Suits t (Ended Yes) → Answering question (Some t.values)
found_yes question t same h = subst (λ (q : Question). Answering q (Some t.values)) same (ended_yes t h)
