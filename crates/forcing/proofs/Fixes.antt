-- From assumed literals and forcing to what is fixed of a question, or to its having no model.
use Rattle.std.proofs.Common.{◌≡◌, ℕ, ◌+◌, ◌≤◌, true, false, ◌&&◌, leb, List, [], ◌∷◌, replicate, ℤ, sym, refl, subst, arith}
use Rattle.std.specs.List.{AllByRecursion}
use Rattle.std.proofs.ByRecursion.{All-weaker}
use Rattle.std.proofs.lemmas.Bool.{and_parts, and_from, both_ways, leb-true, le-leb}
use Rattle.sat.specs.Formula.{variable, within, literals, closed}
use Rattle.sat.specs.Question.{Answers, well_formed}
use Rattle.sat.specs.declared.question.Question.{Question}
use Rattle.scan.specs.Values.{reads, Agrees}
use Rattle.scan.specs.Edits.{assumed, unopposed}
use Rattle.scan.specs.declared.value.Value.{Value}
use Rattle.scan.specs.declared.value.Value.TheVariants.{Open, True}
use Rattle.scan.specs.declared.values.TheConstants.{LARGEST}
use Rattle.scan.specs.declared.values.Values.{Values}
use Rattle.scan.proofs.Agreement.{agrees_open}
use Rattle.scan.proofs.Assuming.{assumed_agrees, agrees_unopposed, unopposed-true}
use Rattle.scan.proofs.Finding.{conflict_none}
use Rattle.scan.proofs.Literals.{Names, literals_name}
use Rattle.forcing.specs.Fixing.{Forces, Fixed}

within_wider : (v w : ℕ) (zs : List ℤ) → v ≤ w → within v zs ≡ true → within w zs ≡ true
within_wider v w [] h e = refl
within_wider v w (z ∷ zs) h e =
    let p = and_parts (leb (variable z) v) (within v zs) e in
    let k = leb-true (variable z) v p.0 in
    and_from (leb (variable z) w) (within w zs) (le-leb (variable z) w (omega arith)) (within_wider v w zs h p.1)

-- a question that passes the test
module _ (question : Question) (formed : well_formed question.variables question.formula.now question.assumed.now ≡ true) where
  parts : (closed question.formula.now ≡ true) × ((within question.variables question.formula.now && (within question.variables question.assumed.now && literals question.assumed.now)) ≡ true)
  parts = and_parts (closed question.formula.now) (within question.variables question.formula.now && (within question.variables question.assumed.now && literals question.assumed.now)) formed

  later : (within question.variables question.formula.now ≡ true) × ((within question.variables question.assumed.now && literals question.assumed.now) ≡ true)
  later = and_parts (within question.variables question.formula.now) (within question.variables question.assumed.now && literals question.assumed.now) parts.1

  pub formula_closed : closed question.formula.now ≡ true
  formula_closed = parts.0

  pub formula_within : within question.variables question.formula.now ≡ true
  formula_within = later.0

  pub formula_small : question.variables ≤ LARGEST → within LARGEST question.formula.now ≡ true
  formula_small h = within_wider question.variables LARGEST question.formula.now h later.0

  pub assumed_name : (w : ℕ) → question.variables ≤ w → AllByRecursion (Names w) question.assumed.now
  assumed_name w h =
      let p = and_parts (within question.variables question.assumed.now) (literals question.assumed.now) later.1 in
      literals_name w question.assumed.now (within_wider question.variables w question.assumed.now h p.0) p.1

-- from all variables open, by the assumed literals, to what forcing leaves
module _ (question : Question) (start middle : Values) (fresh : start.slots ≡ replicate (LARGEST + 1) Open) (leaves : middle ≡ assumed start question.assumed.now) where
  start_agrees : (m : List ℕ) → Agrees start.slots m
  start_agrees m = subst (λ slots. Agrees slots m) (sym fresh) (agrees_open (LARGEST + 1) m)

  middle_agrees : (m : List ℕ) → Answers question m → Agrees middle.slots m
  middle_agrees m s = subst (λ x. Agrees x.slots m) (sym leaves) (assumed_agrees start question.assumed.now m s.kept (start_agrees m))

  pub opposed_none : unopposed start question.assumed.now ≡ false → (m : List ℕ) → Answers question m → ⊥
  opposed_none e m s = both_ways (unopposed start question.assumed.now) e (agrees_unopposed start question.assumed.now m s.kept (start_agrees m))

  module _ (after : List Value) where
    pub all_false_none : Forces question.formula.now middle.slots after false → (m : List ℕ) → Answers question m → ⊥
    all_false_none f m s = conflict_none question.variables question.formula.now question.assumed.now after f.ended m s (f.implies m s.clauses (middle_agrees m s))

    pub fixed_from :
        question.variables ≤ LARGEST → well_formed question.variables question.formula.now question.assumed.now ≡ true → unopposed start question.assumed.now ≡ true → Forces question.formula.now middle.slots after true →
        Fixed question.variables question.formula.now question.assumed.now after
    fixed_from h formed u f =
        record {
          keeps =
              All-weaker (λ z. reads middle.slots z ≡ True) (λ z. reads after z ≡ True) f.keeps question.assumed.now
              (subst (λ x. AllByRecursion (λ z. reads x.slots z ≡ True) question.assumed.now) (sym leaves) (unopposed-true start question.assumed.now (assumed_name question formed LARGEST h) u));
          implied = λ m s. f.implies m s.clauses (middle_agrees m s);
          ended = f.ended;
        }
