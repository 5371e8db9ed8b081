-- What a round found, for the models of the question.
use Rattle.std.proofs.Common.{◌≡◌, ℕ, true, List, ℤ, Some, subst}
use Rattle.std.specs.List.{AllByRecursion}
use Rattle.std.proofs.ByRecursion.{all-has}
use Rattle.std.proofs.lemmas.Bool.{both_ways}
use Rattle.sat.specs.Formula.{is_true, satisfied, clauses_of, within}
use Rattle.sat.specs.Question.{Models}
use Rattle.scan.specs.Values.{reads, Agrees}
use Rattle.scan.specs.Clauses.{Means}
use Rattle.scan.specs.Rounds.{Finds}
use Rattle.scan.specs.declared.value.Value.{Value}
use Rattle.scan.specs.declared.value.Value.TheVariants.{Open}
use Rattle.scan.specs.declared.clause.Standing.TheVariants.{Forcing}
use Rattle.scan.specs.declared.round.Telling.TheVariants.{Conflict, Forced}
use Rattle.scan.proofs.Meaning.{judged_means}
use Rattle.scan.proofs.Agreement.{conflict_fails, forced_holds}
use Rattle.scan.proofs.Literals.{Names, clauses_name}

module _ (v : ℕ) (formula assumed : List ℤ) (values : List Value) where
  -- no model agrees where a clause is all false
  pub conflict_none : Finds values (clauses_of formula) (Some Conflict) → (m : List ℕ) → Models v formula assumed m → Agrees values m → ⊥
  conflict_none f m models a =
      both_ways (satisfied m f.0) (conflict_fails values m a f.0 f.2) (all-has (λ clause. satisfied m clause ≡ true) (clauses_of formula) f.0 models.clauses f.1)

  -- a forced literal is true in every model that agrees
  pub forced-true : (z : ℤ) → Finds values (clauses_of formula) (Some (Forced z)) → (m : List ℕ) → Models v formula assumed m → Agrees values m → is_true m z ≡ true
  forced-true z f m models a = forced_holds values m a f.0 z f.2 (all-has (λ clause. satisfied m clause ≡ true) (clauses_of formula) f.0 models.clauses f.1)

-- a forced literal is open, and names a variable of the question
pub forced_names : (v : ℕ) (formula : List ℤ) (values : List Value) (z : ℤ) → within v formula ≡ true → Finds values (clauses_of formula) (Some (Forced z)) → Names v z × (reads values z ≡ Open)
forced_names v formula values z w f =
    let k : Means values f.0 (Forcing z) = subst (Means values f.0) f.2 (judged_means values f.0) in
    (all-has (Names v) f.0 z (all-has (AllByRecursion (Names v)) (clauses_of formula) f.0 (clauses_name v formula w) f.1) k.0, k.1)
