-- The lines of a netlist: their forms, how each is written, and the edit that each stands for.
use Rattle.std.specs.Prelude.{◌≡◌, ℕ, ◌+◌, ◌-◌, ◌^◌, ◌<◌, ◌≤◌, Bool, false, cond, not, ◌&&◌, ◌||◌, List, [], ◌∷◌, ◌++◌, length, Some, None, codes, decimal, Option, ◌==◌, nat_le}
use Rattle.std.specs.List.{flat_map}
use Rattle.board.specs.Rows.{has_end}
use Rattle.board.specs.declared.edit.Edit.{Edit}
use Rattle.board.specs.declared.edit.Edit.TheVariants.{Make, Add, Lock}

-- `B p k m`, `N n c c ..` and `L n A`; a letter is counted from A, which is 0
pub data Line : Type 0 where
  BoardLine : (chips fpics pins : ℕ) → Line
  NetLine : (net : ℕ) (chips : List ℕ) → Line
  LockLine : (net letter : ℕ) → Line

-- a space and a number
abbrev pub field : ℕ → List ℕ
field n = codes " " ++ decimal n

abbrev pub line_feed : List ℕ
line_feed = 10 ∷ []

-- how a line is written
abbrev pub render : Line → List ℕ
render (BoardLine chips fpics pins) = codes "B" ++ (field chips ++ (field fpics ++ (field pins ++ line_feed)))
render (NetLine net chips) = codes "N" ++ (field net ++ (flat_map field chips ++ line_feed))
render (LockLine net letter) = codes "L" ++ (field net ++ (codes " " ++ ((65 + letter) ∷ line_feed)))

-- whether a list has a chip
abbrev pub among : ℕ → List ℕ → Bool
among c [] = false
among c (d ∷ ds) = c == d || among c ds

-- chips from 1 to 32, none of them twice
abbrev pub Chips : List ℕ → Type 0
Chips [] = Unit {0}
Chips (c ∷ cs) = (1 ≤ c) × (c ≤ 32) × (among c cs ≡ false) × Chips cs

-- a number has one to three digits, a net one chip or more, and a letter is one of A to H
abbrev pub Formed : Line → Type 0
Formed (BoardLine chips fpics pins) = (chips < 1000) × (fpics < 1000) × (pins < 1000)
Formed (NetLine net chips) = (net < 1000) × (1 ≤ length chips) × Chips chips
Formed (LockLine net letter) = (net < 1000) × (letter < 8)

-- the letter that a line begins with: B, N or L
abbrev pub keyword : Line → ℕ
keyword (BoardLine chips fpics pins) = 66
keyword (NetLine net chips) = 78
keyword (LockLine net letter) = 76

-- a line may stand at a place, counted from 1: a board line at the first, and at no other
abbrev pub MayStand : ℕ → Line → Type 0
MayStand place line = Formed line × ((keyword line == 66) ≡ (place == 1))

-- the set of chips, chip c at bit c - 1
abbrev pub ends_of : List ℕ → ℕ
ends_of [] = 0
ends_of (c ∷ cs) = 2 ^ (c - 1) + ends_of cs

-- a set with one more chip, which is from 1 to 32 and not in it yet
abbrev pub with_chip : ℕ → ℕ → Option ℕ
with_chip ends c = cond (nat_le 1 c && (nat_le c 32 && not (has_end ends c))) (Some (ends + 2 ^ (c - 1))) None

abbrev pub edit_of : Line → Edit
edit_of (BoardLine chips fpics pins) = Make chips fpics pins
edit_of (NetLine net chips) = Add net (ends_of chips)
edit_of (LockLine net letter) = Lock net letter
