-- Partial valuations altered.
use Rattle.std.proofs.Common.{◌∙◌, length-set}
use Rattle.std.specs.Prelude.{ℕ, Bool, true, false, List, [], ◌∷◌, ℤ, slice_set}
use Rattle.sat.specs.Formula.{variable}
use Rattle.scan.specs.Values.{by_value, truth, reads}
use Rattle.scan.specs.declared.value.Value.{Value}
use Rattle.scan.specs.declared.values.Values.{Values}

-- the values with one of them made another
abbrev pub put : Values → ℕ → Value → Values
put values n value = record { slots = slice_set values.slots n value; long = length-set values.slots n value ∙ values.long }

-- the values with a literal made true
abbrev pub assigned : Values → ℤ → Values
assigned values z = put values (variable z) (truth z)

-- the values with each open literal of the list made true in turn, up to the first that is false
abbrev pub assumed : Values → List ℤ → Values
assumed values [] = values
assumed values (z ∷ zs) = by_value (reads values.slots z) (assumed (assigned values z) zs) (assumed values zs) values

-- none of them is then false
abbrev pub unopposed : Values → List ℤ → Bool
unopposed values [] = true
unopposed values (z ∷ zs) = by_value (reads values.slots z) (unopposed (assigned values z) zs) (unopposed values zs) false
