-- Whether a plan is legal can be decided, since its room is looked at on the chips and FPICs of the rack alone; and locks by rank.
use Rattle.std.proofs.Common.{◌≡◌, ℕ, suc, ◌+◌, ◌<◌, ◌≤◌, ◌⊎◌, ◌↔◌, List, [], ◌∷◌, map, get_or, Some, None, count_by, Option, sym, refl, ap, ◌∙◌, inl, inr, ⊎_elim, arith}
use Rattle.std.proofs.ByRecursion.{All-map}
use Rattle.std.proofs.lemmas.Bool.{cases_eq, cases_lt}
use Rattle.std.specs.List.{range_with_len, AllByRecursion}
use Rattle.board.specs.Held.{Held}
use Rattle.board.specs.Laws.{Lawful}
use Rattle.board.specs.Rows.{row_of}
use Rattle.board.specs.declared.net.Net.{Net}
use Rattle.plans.specs.Nets.{lock_of, nets_of, numbers_from}
use Rattle.plans.specs.Plans.{Fits, Legal, Row, uses}
use Rattle.plans.proofs.Elements.{cons_nil, nil_cons}
use Rattle.plans.proofs.Letters.{letters}
use Rattle.plans.proofs.Order.{Decided, Shape}
use Rattle.plans.proofs.Ranges.{all_counting, counting_all}
use Rattle.plans.proofs.Sharing.{room_everywhere, uses_sharing}

-- what is decided of each element is decided of all
all_decided : {X : Type 0} (P : X → Type 0) → ((x : X) → P x ⊎ (P x → ⊥)) → (xs : List X) → AllByRecursion P xs ⊎ (AllByRecursion P xs → ⊥)
all_decided P h [] = inl tt
all_decided P h (x ∷ xs) =
    ⊎_elim
    (λ here. ⊎_elim (λ rest. inl (here, rest)) (λ no-rest. inr (λ a. no-rest a.1)) (all_decided P h xs))
    (λ not-here. inr (λ a. not-here a.0))
    (h x)

-- a row goes by its lock, where `at` gives each number its row
abbrev LockKept : (ℕ → Option Net) → Row → Type 0
LockKept at row = (letter : ℕ) → lock_of (at row.number) ≡ Some letter → row.fpic ≡ letter

lock_decided : (lock : Option ℕ) (t : ℕ) → ((letter : ℕ) → lock ≡ Some letter → t ≡ letter) ⊎ (((letter : ℕ) → lock ≡ Some letter → t ≡ letter) → ⊥)
lock_decided None t = inl (λ letter e. cc)
lock_decided (Some l) t = ⊎_elim (λ e. inl (λ letter is. cc)) (λ ne. inr (λ h. ne (h l refl))) (cases_eq t l)

module _ (held : Held) (lawful : Lawful held) where
  abbrev Room : List Row → ℕ → ℕ → Type 0
  Room plan chip t = count_by (uses held chip t) plan ≤ held.pins

  abbrev RoomOn : List Row → ℕ → Type 0
  RoomOn plan chip = AllByRecursion (Room plan chip) (range_with_len 0 held.fpics)

  room_decided : (plan : List Row) → AllByRecursion (RoomOn plan) (range_with_len 1 held.chips) ⊎ (AllByRecursion (RoomOn plan) (range_with_len 1 held.chips) → ⊥)
  room_decided plan =
      all_decided (RoomOn plan)
      (λ chip. all_decided (Room plan chip) (λ t. ⊎_elim (λ l. inr (λ h. omega arith)) (λ l. inl l) (cases_lt held.pins (count_by (uses held chip t) plan))) (range_with_len 0 held.fpics))
      (range_with_len 1 held.chips)

  fits_from_room : (plan : List Row) → Shape held.fpics (numbers_from 1 held.rows) plan → AllByRecursion (RoomOn plan) (range_with_len 1 held.chips) → Fits held plan
  fits_from_room plan shape room =
      let counts = uses_sharing held plan shape.0 in
      let small = All-map (λ l. l < held.fpics) (λ row. row.fpic) plan shape.1 in
      let everywhere = room_everywhere held lawful (letters plan) small
      (λ chip t low high below.
      omega (arith, counts chip t, counting_all (Room plan chip) 0 held.fpics (counting_all (RoomOn plan) 1 held.chips room chip low (omega arith)) t (omega arith) (omega arith))) in
      record { nets = shape.0; fpics = shape.1; room = λ chip t. omega (arith, counts chip t, everywhere chip t) }

  pub legal_decided : Decided held.fpics (numbers_from 1 held.rows) (Legal held)
  legal_decided plan shape =
      ⊎_elim
      (λ room.
      ⊎_elim
      (λ locks. inl (record { fits = fits_from_room plan shape room; locks = locks }))
      (λ broken. inr (λ legal. broken legal.locks))
      (all_decided (LockKept (row_of held.rows)) (λ row. lock_decided (lock_of (row_of held.rows row.number)) row.fpic) plan))
      (λ full.
      inr (λ legal.
      full (all_counting (RoomOn plan) 1 held.chips (λ chip _ _. all_counting (Room plan chip) 0 held.fpics (λ t _ _. legal.fits.room chip t)))))
      (room_decided plan)

-- ---- locks by rank

-- each locked net has its lock for a letter
abbrev pub LocksKept : List Net → List ℕ → Type 0
LocksKept [] ls = Unit {0}
LocksKept (net ∷ nets) [] = Unit {0}
LocksKept (net ∷ nets) (l ∷ ls) = ((letter : ℕ) → net.lock ≡ Some letter → l ≡ letter) × LocksKept nets ls

locks_rows : (at : ℕ → Option Net) (n : ℕ) (rows : List (Option Net)) (plan : List Row) → ((i : ℕ) → at (n + i) ≡ get_or rows i None) → map (λ row. row.number) plan ≡ numbers_from n rows →
    AllByRecursion (LockKept at) plan ↔ LocksKept (nets_of rows) (letters plan)
locks_rows at n [] [] same e = (λ _. tt, λ _. tt)
locks_rows at n [] (row ∷ plan) same e = absurd (cons_nil e)
locks_rows at n (None ∷ rows) plan same e = locks_rows at (n + 1) rows plan (λ i. ap at (omega arith) ∙ same (suc i)) e
locks_rows at n (Some net ∷ rows) [] same e = absurd (nil_cons e)
locks_rows at n (Some net ∷ rows) (row ∷ plan) same e =
    let number : row.number ≡ n = cc in
    let others : map (λ row. row.number) plan ≡ numbers_from (n + 1) rows = cc in
    let rest = locks_rows at (n + 1) rows plan (λ i. ap at (omega arith) ∙ same (suc i)) others in
    let here : lock_of (at row.number) ≡ net.lock = ap lock_of (ap at (omega (arith, number)) ∙ same 0) in
    (λ h. (λ letter is. h.0 letter (here ∙ is), rest.0 h.1), λ h. (λ letter is. h.0 letter (sym here ∙ is), rest.1 h.1))

-- a plan that fits is legal exactly when its letters keep the locks
pub legal_by_rank : (held : Held) (plan : List Row) → Fits held plan → Legal held plan ↔ LocksKept (nets_of held.rows) (letters plan)
legal_by_rank held plan fits =
    let both = locks_rows (row_of held.rows) 1 held.rows plan (λ i. ap (λ j. get_or held.rows j None) (omega arith)) fits.nets in
    (λ legal. both.0 legal.locks, λ kept. record { fits = fits; locks = both.1 kept })
