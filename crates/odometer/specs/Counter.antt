-- A list of bytes 0 and 1 as a number, its lowest place first, and the number after it.
use Rattle.std.specs.Prelude.{ℕ, zero, suc, ◌+◌, ◌*◌, Bool, true, false, List, [], ◌∷◌}

-- the number that the bytes write
abbrev pub value : List ℕ → ℕ
value [] = 0
value (byte ∷ bytes) = byte + 2 * value bytes

-- some byte is 0, so that a number follows before the bytes wrap
abbrev pub has_zero : List ℕ → Bool
has_zero [] = false
has_zero (zero ∷ bytes) = true
has_zero (suc n ∷ bytes) = has_zero bytes

-- the bytes one number further: the ones in front become 0, the first 0 becomes 1
abbrev pub next : List ℕ → List ℕ
next [] = []
next (zero ∷ bytes) = 1 ∷ bytes
next (suc n ∷ bytes) = 0 ∷ next bytes
