-- Partial valuations: what a literal is under one, and which valuations agree with it.
-- A partial valuation is a list of values, that of variable n at place n.
use Rattle.std.specs.Prelude.{◌≡◌, ℕ, zero, suc, ◌+◌, ◌<◌, List, [], ◌∷◌, map, take, drop, ℤ, pos, negsuc, ◌≢◌, slice_index, slice_index_or}
use Rattle.scan.specs.declared.value.Value.{Value}
use Rattle.scan.specs.declared.value.Value.TheVariants.{Open, True, False}

-- one of three, by a value
abbrev pub by_value : {X : Type 0} → Value → (where_open where_true where_false : X) → X
by_value Open o t f = o
by_value True o t f = t
by_value False o t f = f

abbrev pub opposite : Value → Value
opposite value = by_value value Open False True

-- the value that a literal gives its variable
abbrev pub truth : ℤ → Value
truth (pos n) = True
truth (negsuc n) = False

-- what a literal is; 0 is no literal
abbrev pub reads : List Value → ℤ → Value
reads values (pos zero) = Open
reads values (pos (suc n)) = slice_index_or values (suc n) Open
reads values (negsuc n) = opposite (slice_index_or values (suc n) Open)

-- the byte of a variable of this value; an open one may have any
abbrev pub Stands : Value → ℕ → Type 0
Stands Open byte = Unit {0}
Stands True byte = byte ≡ 1
Stands False byte = byte ≡ 0

-- every variable that is not open has its byte in the valuation
abbrev pub Agrees : List Value → List ℕ → Type 0
Agrees values valuation = (n : ℕ) → Stands (slice_index_or values (suc n) Open) (slice_index valuation n)

-- none of the variables 1 to v is open
abbrev pub Closed : ℕ → List Value → Type 0
Closed v values = (n : ℕ) → n < v → slice_index_or values (suc n) Open ≢ Open

-- the valuation of the variables 1 to v, as the values have them
abbrev pub read_off : ℕ → List Value → List ℕ
read_off v values = map (λ value. by_value value 0 1 0) (take v (drop 1 values))

-- how many slots are open
abbrev pub opens : List Value → ℕ
opens [] = 0
opens (value ∷ values) = by_value value 1 0 0 + opens values
