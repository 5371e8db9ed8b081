-- The question that is put to the solver below has the same models, and the answer to it is the layer's own.
use Rattle.std.proofs.Common.{◌≡◌, ℕ, ◌≤◌, min, Bool, true, false, cond, not, ◌&&◌, ltb, List, [], ◌∷◌, length, take, ℤ, Some, None, Ok, Err, Result, refl, subst, arith}
use Rattle.std.specs.List.{AllByRecursion}
use Rattle.std.proofs.ByRecursion.{All-weaker}
use Rattle.std.proofs.lemmas.Bool.{and_from, ltb-false, le-ltb}
use Rattle.sat.specs.Formula.{is_true, closed, within, literals}
use Rattle.sat.specs.Question.{Answers, Models, Truth, refusal, well_formed, Solved, Answered}
use Rattle.sat.specs.declared.question.Question.{Question}
use Rattle.sat.specs.declared.question.Refusal.{Refusal}
use Rattle.sat.specs.declared.question.Verdict.{Verdict}
use Rattle.sat.specs.declared.question.Verdict.TheVariants.{Yes, No}
use Rattle.scan.specs.Values.{reads}
use Rattle.scan.specs.declared.values.TheConstants.{LARGEST}
use Rattle.scan.specs.declared.value.Value.{Value}
use Rattle.scan.specs.declared.value.Value.TheVariants.{True}
use Rattle.scan.proofs.Agreement.{agrees_true}
use Rattle.scan.proofs.Literals.{Names}
use Rattle.forcing.specs.Fixing.{Fixed, Lists}
use Rattle.forcing.specs.Listing.{fixed_up_to}
use Rattle.forcing.proofs.Fixes.{formula_closed, formula_within, assumed_name}
use Rattle.forcing.proofs.Lists.{within_from_names, literals_from_names, fixed_reads, fixed_names, fixed_has}

-- a question that is not refused
pub record Taken (largest v : ℕ) (formula assumed : List ℤ) (room : ℕ) : Type 0 where
  pub small : v ≤ largest
  pub formed : well_formed v formula assumed ≡ true
  pub fits : v ≤ room

taken_by : (x y z : Bool) (e f g : Refusal) → cond x (Some e) (cond (not y) (Some f) (cond z (Some g) None)) ≡ None → (x ≡ false) × (y ≡ true) × (z ≡ false)
taken_by true y z e f g n = cc
taken_by false false z e f g n = cc
taken_by false true true e f g n = cc
taken_by false true false e f g n = (refl, refl, refl)

module _ (largest v : ℕ) (formula assumed : List ℤ) (room : ℕ) where
  pub taken_from_none : refusal largest v formula assumed room ≡ None → Taken largest v formula assumed room
  taken_from_none n =
      let t = taken_by (ltb largest v) (well_formed v formula assumed) (ltb room v) _ _ _ n in
      record { small = ltb-false largest v t.0; formed = t.1; fits = ltb-false room v t.2 }

  pub none_from_taken : Taken largest v formula assumed room → refusal largest v formula assumed room ≡ None
  none_from_taken t =
      let x = le-ltb largest v t.small in
      let y = t.formed in
      let z = le-ltb room v t.fits in
      simp (x, y, z)

module _ (question : Question) (values : List Value) (fixed : Fixed question.variables question.formula.now question.assumed.now values) where
  to_below : (m : List ℕ) → Answers question m → Models question.variables question.formula.now (fixed_up_to values question.variables) m
  to_below m s =
      record {
        size = s.size;
        bits = s.bits;
        clauses = s.clauses;
        kept =
            All-weaker (λ z. reads values z ≡ True) (λ z. is_true m z ≡ true) (agrees_true values m (fixed.implied m s)) (fixed_up_to values question.variables)
            (fixed_reads values question.variables);
      }

  kept_above : (m : List ℕ) (zs : List ℤ) → AllByRecursion (λ z. is_true m z ≡ true) (fixed_up_to values question.variables) → AllByRecursion (Names question.variables) zs → AllByRecursion (λ z. reads values z ≡ True) zs →
      AllByRecursion (λ z. is_true m z ≡ true) zs
  kept_above m [] k n r = tt
  kept_above m (z ∷ zs) k n r = (fixed_has values (λ y. is_true m y ≡ true) question.variables k z n.0 r.0, kept_above m zs k n.1 r.1)

  from_below : AllByRecursion (Names question.variables) question.assumed.now → (m : List ℕ) → Models question.variables question.formula.now (fixed_up_to values question.variables) m →
      Answers question m
  from_below n m s = record { size = s.size; bits = s.bits; clauses = s.clauses; kept = kept_above m question.assumed.now s.kept n fixed.keeps }

-- the answer to the question below is one to the question
truth_above : (v : ℕ) (formula assumed listed : List ℤ) (front : List ℕ) (r : Result Verdict Refusal) →
    ((m : List ℕ) → Models v formula assumed m → Models v formula listed m) → ((m : List ℕ) → Models v formula listed m → Models v formula assumed m) →
    Truth v formula listed front r → Truth v formula assumed front r
truth_above v formula assumed listed front (Ok Yes) to from t = from front t
truth_above v formula assumed listed front (Ok No) to from t = (t.0, λ m s. t.1 m (to m s))
truth_above v formula assumed listed front (Err e) to from t = t

module _ {S : Type 0} (largest tally : S → ℕ) (question : Question) (before after : S) (was is : List ℕ) (r : Result Verdict Refusal) where
  -- the solver below takes the question with the list of what is fixed, and answers it as it was put
  exactly_below : Taken (min LARGEST (largest before)) question.variables question.formula.now question.assumed.now (length was) →
      (values : List Value) → Fixed question.variables question.formula.now question.assumed.now values →
      Solved largest tally question.variables question.formula.now (fixed_up_to values question.variables) before after was is r →
      Answered largest tally question.variables question.formula.now question.assumed.now before after was is r
  exactly_below taken values fixed solved =
      let v = question.variables in
      let formula = question.formula.now in
      let listed = fixed_up_to values v in
      let listing = fixed_names values v v (omega arith) in
      let answer =
      solved.answered (none_from_taken (largest before) v formula listed (length was) (record {
        small = omega (arith, taken.small);
        formed =
            and_from (closed formula) (within v formula && (within v listed && literals listed)) (formula_closed question taken.formed)
            (and_from (within v formula) (within v listed && literals listed) (formula_within question taken.formed)
            (and_from (within v listed) (literals listed) (within_from_names v listed listing) (literals_from_names v listed listing)));
        fits = taken.fits;
      })) in
      record {
        bound = answer.bound;
        count = answer.count;
        truth =
            truth_above v formula question.assumed.now listed (take v is) r (to_below question values fixed)
            (from_below question values fixed (assumed_name question taken.formed v (omega arith))) answer.truth;
        behind = answer.behind;
      }

  pub answered_below : (listed : List ℤ) → Taken (min LARGEST (largest before)) question.variables question.formula.now question.assumed.now (length was) → Lists question.variables question.formula.now question.assumed.now listed →
      Solved largest tally question.variables question.formula.now listed before after was is r →
      Answered largest tally question.variables question.formula.now question.assumed.now before after was is r
  answered_below listed taken lists solved =
      exactly_below taken lists.values lists.fixed
      (subst (λ (l : List ℤ). Solved largest tally question.variables question.formula.now l before after was is r) lists.exact solved)

-- an answered question meets the whole promise of `solve`
pub solved_answered : {S : Type 0} (largest tally : S → ℕ) (v : ℕ) (formula assumed : List ℤ) (before after : S) (was is : List ℕ) (r : Result Verdict Refusal) →
    refusal (largest before) v formula assumed (length was) ≡ None → Answered largest tally v formula assumed before after was is r →
    Solved largest tally v formula assumed before after was is r
solved_answered largest tally v formula assumed before after was is r none answer =
    record {
      refused = λ e some. cc;
      answered = λ _. answer;
    }
