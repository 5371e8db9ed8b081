-- The literals of the variables that a partial valuation fixes.
use Rattle.std.specs.Prelude.{ℕ, zero, suc, List, [], ◌++◌, ℤ, pos, neg_ℤ, Some, None, Option, slice_index_or}
use Rattle.std.specs.Option.{option_to_list}
use Rattle.scan.specs.declared.value.Value.{Value}
use Rattle.scan.specs.declared.value.Value.TheVariants.{Open, True, False}

-- the literal that variable n of this value makes true
abbrev pub literal_of : Value → ℕ → Option ℤ
literal_of Open n = None
literal_of True n = Some (pos n)
literal_of False n = Some (neg_ℤ (pos n))

-- the literals of those of the variables 1 to n that are not open
abbrev pub fixed_up_to : List Value → ℕ → List ℤ
fixed_up_to values zero = []
fixed_up_to values (suc n) = fixed_up_to values n ++ option_to_list (literal_of (slice_index_or values (suc n) Open) (suc n))
