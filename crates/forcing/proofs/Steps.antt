-- One forced literal made true: what is kept, what is implied, and that fewer variables are open.
use Rattle.std.proofs.Common.{◌≡◌, ℕ, ◌+◌, ◌<◌, true, List, length, get_or, set, ℤ, pos, negsuc, Some, arith}
use Rattle.std.specs.List.{AllByRecursion}
use Rattle.std.proofs.ByRecursion.{all-has}
use Rattle.sat.specs.Formula.{variable, satisfied, clauses_of, within}
use Rattle.scan.specs.Values.{reads, truth, Agrees, opens}
use Rattle.scan.specs.Rounds.{Finds}
use Rattle.scan.specs.declared.round.Telling.TheVariants.{Forced}
use Rattle.scan.specs.declared.values.TheConstants.{LARGEST}
use Rattle.scan.specs.declared.value.Value.{Value}
use Rattle.scan.specs.declared.value.Value.TheVariants.{Open, True}
use Rattle.scan.proofs.Agreement.{agrees_assign, forced_holds}
use Rattle.scan.proofs.Counting.{opens_close}
use Rattle.scan.proofs.Finding.{forced_names}
use Rattle.scan.proofs.Literals.{slot_open, set_keeps}

truth-closed : (z : ℤ) → truth z ≡ Open → ⊥
truth-closed (pos n) e = cc
truth-closed (negsuc n) e = cc

-- every model of the clauses that agrees with the one agrees with the other
abbrev pub Implies : List ℤ → (before after : List Value) → Type 0
Implies formula before after = (m : List ℕ) → AllByRecursion (λ clause. satisfied m clause ≡ true) (clauses_of formula) → Agrees before m → Agrees after m

-- a true literal stays true
abbrev pub Keeps : (before after : List Value) → Type 0
Keeps before after = (z : ℤ) → reads before z ≡ True → reads after z ≡ True

module _ (formula : List ℤ) (values : List Value) (z : ℤ) (size : length values ≡ LARGEST + 1) (w : within LARGEST formula ≡ true) (found : Finds values (clauses_of formula) (Some (Forced z))) where
  was_open : get_or values (variable z) Open ≡ Open
  was_open = let n = forced_names LARGEST formula values z w found in slot_open values z n.0.0 n.1

  pub forced_keeps : (before : List Value) → Keeps before values → Keeps before (set values (variable z) (truth z))
  forced_keeps before k y t = set_keeps values (variable z) (truth z) y was_open (k y t)

  pub forced_implies : (before : List Value) → Implies formula before values → Implies formula before (set values (variable z) (truth z))
  forced_implies before i m s a =
      let b = i m s a in
      agrees_assign values m z b (forced_holds values m b found.0 z found.2 (all-has (λ clause. satisfied m clause ≡ true) (clauses_of formula) found.0 s found.1))

  pub forced_falls : opens (set values (variable z) (truth z)) < opens values
  forced_falls =
      let n = forced_names LARGEST formula values z w found in
      let h : variable z < length values = omega (arith, n.0.1) in
      omega (arith, opens_close values (variable z) (truth z) h was_open (truth-closed z))
