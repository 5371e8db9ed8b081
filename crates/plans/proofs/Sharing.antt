-- The nets of a chip that go by one FPIC: how many they are, counted by rank, in a plan, and off the rack.
use Rattle.std.proofs.Common.{◌≡◌, ℕ, suc, ◌+◌, ◌<◌, ◌≤◌, Bool, false, cond, ◌&&◌, eqb, List, [], ◌∷◌, map, length, get_or, Some, None, count_by, Option, refl, ap, ◌∙◌, ⊎_elim, arith}
use Rattle.std.proofs.ByRecursion.{All-weaker}
use Rattle.std.proofs.lemmas.List.Sums.{sum_by-cons}
use Rattle.std.proofs.lemmas.Bool.{and_left, and_right, cases_Bool, cases_lt, cond-false, cond-true, ne_eqb}
use Rattle.std.specs.List.{AllByRecursion}
use Rattle.board.specs.Held.{Held}
use Rattle.board.specs.Laws.{Lawful, LawfulNet}
use Rattle.board.specs.Rows.{ends_on, has_end, row_of}
use Rattle.board.specs.declared.net.Net.{Net}
use Rattle.plans.specs.Nets.{nets_of, numbers_from, ranks_from}
use Rattle.plans.specs.Plans.{Row, uses}
use Rattle.plans.proofs.Elements.{cons_nil, nil_cons}
use Rattle.plans.proofs.Letters.{letters}
use Rattle.plans.proofs.Ranks.{all_nets}

-- how many nets, with these letters, end on a chip and go by FPIC t
abbrev pub sharing : (chip t : ℕ) → List Net → List ℕ → ℕ
sharing chip t [] ls = 0
sharing chip t (net ∷ nets) [] = 0
sharing chip t (net ∷ nets) (l ∷ ls) = cond (has_end net.ends chip && eqb l t) 1 0 + sharing chip t nets ls

-- counted by rank
pub sharing_ranks : (test : ℕ → Bool) (chip t r : ℕ) (nets : List Net) (ls : List ℕ) → length nets ≡ length ls →
    ((i : ℕ) → i < length ls → test (r + i) ≡ eqb (get_or ls i 0) t) → count_by test (ranks_from r chip nets) ≡ sharing chip t nets ls
sharing_ranks test chip t r [] ls long same = refl
sharing_ranks test chip t r (net ∷ nets) [] long same = absurd (omega arith)
sharing_ranks test chip t r (net ∷ nets) (l ∷ ls) long same =
    let rest = sharing_ranks test chip t (r + 1) nets ls (omega arith) (λ i h. ap test (omega arith) ∙ same (suc i) (omega arith)) in
    let first : test r ≡ eqb l t = ap test (omega arith) ∙ same 0 (omega arith) in
    ⊎_elim
    (λ e.
    ap (count_by test) (cond-true (has_end net.ends chip) (r ∷ ranks_from (r + 1) chip nets) (ranks_from (r + 1) chip nets) e)
    ∙ sum_by-cons (λ x. cond (test x) 1 0) r (ranks_from (r + 1) chip nets)
    ∙ simp (e, rest, first))
    (λ e.
    ap (count_by test) (cond-false (has_end net.ends chip) (r ∷ ranks_from (r + 1) chip nets) (ranks_from (r + 1) chip nets) e)
    ∙ rest ∙ simp e (omega arith))
    (cases_Bool (has_end net.ends chip))

-- counted in a plan, where `at` gives each number its row
pub sharing_rows : (at : ℕ → Option Net) (chip t n : ℕ) (rows : List (Option Net)) (plan : List Row) → ((i : ℕ) → at (n + i) ≡ get_or rows i None) →
    map (λ row. row.number) plan ≡ numbers_from n rows →
    count_by (λ row. ends_on chip (at row.number) && eqb row.fpic t) plan ≡ sharing chip t (nets_of rows) (map (λ row. row.fpic) plan)
sharing_rows at chip t n [] [] same e = refl
sharing_rows at chip t n [] (row ∷ plan) same e = absurd (cons_nil e)
sharing_rows at chip t n (None ∷ rows) plan same e = sharing_rows at chip t (n + 1) rows plan (λ i. ap at (omega arith) ∙ same (suc i)) e
sharing_rows at chip t n (Some net ∷ rows) [] same e = absurd (nil_cons e)
sharing_rows at chip t n (Some net ∷ rows) (row ∷ plan) same e =
    let number : row.number ≡ n = cc in
    let others : map (λ row. row.number) plan ≡ numbers_from (n + 1) rows = cc in
    let rest = sharing_rows at chip t (n + 1) rows plan (λ i. ap at (omega arith) ∙ same (suc i)) others in
    let here : at row.number ≡ Some net = ap at (omega (arith, number)) ∙ same 0 in
    sum_by-cons (λ row. cond (ends_on chip (at row.number) && eqb row.fpic t) 1 0) row plan ∙ simp (here, rest)

-- none where no net ends on the chip, and none at an FPIC that no net goes by
pub sharing_no_end : (chip t : ℕ) (nets : List Net) (ls : List ℕ) → AllByRecursion (λ net. has_end net.ends chip ≡ false) nets → sharing chip t nets ls ≡ 0
sharing_no_end chip t [] ls h = refl
sharing_no_end chip t (net ∷ nets) [] h = refl
sharing_no_end chip t (net ∷ nets) (l ∷ ls) h =
    let no : ◌≡◌ {A = ℕ} (cond (has_end net.ends chip && eqb l t) 1 0) 0 = ap (λ b. cond b 1 0) (and_left (has_end net.ends chip) (eqb l t) h.0) in
    omega (arith, sharing_no_end chip t nets ls h.1)

pub sharing_no_letter : (chip t : ℕ) (nets : List Net) (ls : List ℕ) → AllByRecursion (λ l. l < t) ls → sharing chip t nets ls ≡ 0
sharing_no_letter chip t [] ls h = refl
sharing_no_letter chip t (net ∷ nets) [] h = refl
sharing_no_letter chip t (net ∷ nets) (l ∷ ls) h =
    let below : l < t = h.0 in
    let no : ◌≡◌ {A = ℕ} (cond (has_end net.ends chip && eqb l t) 1 0) 0 =
    ap (λ b. cond b 1 0) (and_right (has_end net.ends chip) (eqb l t) (ne_eqb l t (λ e. omega arith))) in
    omega (arith, sharing_no_letter chip t nets ls h.1)

-- counted over the rows of a plan
pub uses_sharing : (held : Held) (plan : List Row) → map (λ row. row.number) plan ≡ numbers_from 1 held.rows →
    (chip t : ℕ) → count_by (uses held chip t) plan ≡ sharing chip t (nets_of held.rows) (letters plan)
uses_sharing held plan e chip t = sharing_rows (row_of held.rows) chip t 1 held.rows plan (λ i. ap (λ j. get_or held.rows j None) (omega arith)) e

-- room on each chip of the rack at each of its FPICs is room everywhere
pub room_everywhere : (held : Held) → Lawful held → (ls : List ℕ) → AllByRecursion (λ l. l < held.fpics) ls →
    ((chip t : ℕ) → 1 ≤ chip → chip ≤ held.chips → t < held.fpics → sharing chip t (nets_of held.rows) ls ≤ held.pins) →
    (chip t : ℕ) → sharing chip t (nets_of held.rows) ls ≤ held.pins
room_everywhere held lawful ls small h chip t =
    ⊎_elim
    (λ below.
    ⊎_elim
    (λ low. ⊎_elim (λ high. h chip t low (omega arith) below) (λ above. nowhere (λ _ end. omega arith)) (cases_lt chip (held.chips + 1)))
    (λ none. nowhere (λ start _. omega arith))
    (cases_lt 0 chip))
    (λ past. omega (arith, sharing_no_letter chip t (nets_of held.rows) ls (All-weaker (λ l. l < held.fpics) (λ l. l < t) (λ l b. omega arith) ls small)))
    (cases_lt t held.fpics)
  where
    no_end : (1 ≤ chip → chip ≤ held.chips → ⊥) → (net : Net) → LawfulNet held net → has_end net.ends chip ≡ false
    no_end out net good =
        ⊎_elim (λ e. absurd (out (good.ends chip e).0 (good.ends chip e).1)) (λ e. e) (cases_Bool (has_end net.ends chip))

    nowhere : (1 ≤ chip → chip ≤ held.chips → ⊥) → sharing chip t (nets_of held.rows) ls ≤ held.pins
    nowhere out =
        let none = sharing_no_end chip t (nets_of held.rows) ls
        (all_nets (λ net. has_end net.ends chip ≡ false) held.rows
        (λ i net e. no_end out net (lawful.nets (suc i) net (ap (λ j. get_or held.rows j None) (omega arith) ∙ e)))) in
        omega arith
