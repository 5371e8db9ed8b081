-- Net rows, and what a row's change does to them.
use Rattle.std.proofs.Common.{◌≡◌, ℕ, ◌+◌, ◌<◌, ◌≤◌, Bool, true, cond, List, All, length, get_or, set, take, replicate, Some, None, Ok, count_by, Option, sym, refl, ap, ◌∙◌, ⊎_elim, arith}
use Rattle.std.proofs.lemmas.List.{set_past, get_or_past, take_all}
use Rattle.std.proofs.lemmas.Bool.{and_from, and_parts, cases_Bool, cases_lt}
use Rattle.std.proofs.lemmas.List.Elements.{All-get_or, All-replicate, All-same, All-set}
use Rattle.std.proofs.lemmas.List.Folds.{sum_by-replicate}
use Rattle.std.proofs.lemmas.List.Sums.{sum_by_more, sum_by-set}
use Rattle.board.specs.declared.net.Net.{Net}
use Rattle.board.specs.Finds.{held}
use Rattle.board.specs.Rows.{are_ends, ends_on, good_row, load, lock_within}

-- what holds of every row
abbrev pub Good : ℕ → ℕ → List (Option Net) → Type 0
Good chips fpics rows = All (λ row. good_row chips fpics row ≡ true) rows

pub good_at : (chips fpics : ℕ) (rows : List (Option Net)) → Good chips fpics rows → (i : ℕ) → good_row chips fpics (get_or rows i None) ≡ true
good_at chips fpics rows all i =
    ⊎_elim (λ h. All-get_or (λ row. good_row chips fpics row ≡ true) rows i None h all) (λ h. ap (good_row chips fpics) (get_or_past rows i None h)) (cases_lt i (length rows))

-- one row more is counted
pub count_more : (p : Option Net → Bool) (rows : List (Option Net)) (i n k : ℕ) → i < length rows → (n ≡ count_by p (take i rows)) × (n ≤ i) →
    k ≡ n + cond (p (get_or rows i None)) 1 0 → (k ≡ count_by p (take (i + 1) rows)) × (k ≤ i + 1)
count_more p rows i n k h inv e =
    let s : count_by p (take (i + 1) rows) ≡ count_by p (take i rows) + cond (p (get_or rows i None)) 1 0 = sum_by_more (λ row. cond (p row) 1 0) rows i None h in
    grind arith

pub count_all : (p : Option Net → Bool) (rows : List (Option Net)) (i n : ℕ) → length rows ≤ i → n ≡ count_by p (take i rows) → n ≡ count_by p rows
count_all p rows i n h e = e ∙ ap (count_by p) (take_all i rows h)

-- a table without nets is good, whatever the sizes, and loads no chip
pub empty_good : (chips fpics : ℕ) (rows : List (Option Net)) → rows ≡ replicate 128 None → Good chips fpics rows
empty_good chips fpics rows e =
    let P : Option Net → Type 0 = λ row. good_row chips fpics row ≡ true in
    All-same P rows (replicate 128 None) e (All-replicate P 128 None refl)

pub empty_loads : (limit : ℕ) (rows : List (Option Net)) → rows ≡ replicate 128 None → (chip : ℕ) → load chip rows ≤ limit
unfolding load
empty_loads limit rows e chip =
    let z : load chip rows ≡ 0 = ap (load chip) e ∙ sum_by-replicate (λ row. cond (ends_on chip row) 1 0) 128 None in
    omega arith

-- what holds of every row holds after one is replaced
pub good_kept : (chips fpics : ℕ) (rows rows' : List (Option Net)) (j : ℕ) (row : Option Net) → rows' ≡ set rows j row → good_row chips fpics row ≡ true →
    Good chips fpics rows → Good chips fpics rows'
good_kept chips fpics rows rows' j row e g all =
    let P : Option Net → Type 0 = λ r. good_row chips fpics r ≡ true in
    All-same P rows' (set rows j row) e (All-set P rows j row g all)

-- how a chip's load moves with one row
load_set : (chip : ℕ) (rows : List (Option Net)) (j : ℕ) (row : Option Net) →
    load chip (set rows j row) + cond (ends_on chip (get_or rows j None)) 1 0 ≤ load chip rows + cond (ends_on chip row) 1 0
unfolding load
load_set chip rows j row =
    ⊎_elim
    (λ h. let e = sum_by-set (λ r. cond (ends_on chip r) 1 0) rows j row None h in omega (arith, e))
    (λ h.
    let e : load chip (set rows j row) ≡ load chip rows = ap (load chip) (set_past rows j row h) in
    let n : ◌≡◌ {A = ℕ} (cond (ends_on chip (get_or rows j None)) 1 0) 0 = ap (λ r. cond (ends_on chip r) 1 0) (get_or_past rows j None h) in
    omega arith)
    (cases_lt j (length rows))

-- a row that ends nowhere new
pub load_kept : (limit : ℕ) (rows rows' : List (Option Net)) (j : ℕ) (row : Option Net) → rows' ≡ set rows j row →
    ((chip : ℕ) → ends_on chip row ≡ true → ends_on chip (get_or rows j None) ≡ true) →
    ((chip : ℕ) → load chip rows ≤ limit) → (chip : ℕ) → load chip rows' ≤ limit
load_kept limit rows rows' j row e same all chip =
    let m : load chip rows' ≡ load chip (set rows j row) = ap (load chip) e in
    ⊎_elim
    (λ t.
    let o : ◌≡◌ {A = ℕ} (cond (ends_on chip (get_or rows j None)) 1 0) 1 = ap (λ b. cond b 1 0) (same chip t) in
    let n : ◌≡◌ {A = ℕ} (cond (ends_on chip row) 1 0) 1 = ap (λ b. cond b 1 0) t in
    omega (arith, load_set chip rows j row, all chip))
    (λ t. let n : ◌≡◌ {A = ℕ} (cond (ends_on chip row) 1 0) 0 = ap (λ b. cond b 1 0) t in omega (arith, load_set chip rows j row, all chip))
    (cases_Bool (ends_on chip row))

-- a row that ends only where there is room
pub load_room : (limit : ℕ) (rows rows' : List (Option Net)) (j : ℕ) (row : Option Net) → rows' ≡ set rows j row →
    ((chip : ℕ) → ends_on chip row ≡ true → load chip rows < limit) →
    ((chip : ℕ) → load chip rows ≤ limit) → (chip : ℕ) → load chip rows' ≤ limit
load_room limit rows rows' j row e room all chip =
    let m : load chip rows' ≡ load chip (set rows j row) = ap (load chip) e in
    ⊎_elim
    (λ t. let n : ◌≡◌ {A = ℕ} (cond (ends_on chip row) 1 0) 1 = ap (λ b. cond b 1 0) t in omega (arith, load_set chip rows j row, room chip t))
    (λ t. let n : ◌≡◌ {A = ℕ} (cond (ends_on chip row) 1 0) 0 = ap (λ b. cond b 1 0) t in omega (arith, load_set chip rows j row, all chip))
    (cases_Bool (ends_on chip row))

-- a held net that gets another lock: its row stays good with a lock within the FPICs, or with none, and it ends where it ended
held_is : (row : Option Net) (net : Net) → Ok net ≡ held row → row ≡ Some net
held_is None net e = cc
held_is (Some other) net e = cc

pub good_relocked : (chips fpics : ℕ) (rows rows' : List (Option Net)) (j : ℕ) (net : Net) (lock : Option ℕ) → Ok net ≡ held (get_or rows j None) →
    rows' ≡ set rows j (Some (record { ends = net.ends; lock = lock })) → lock_within fpics lock ≡ true →
    Good chips fpics rows → Good chips fpics rows'
good_relocked chips fpics rows rows' j net lock is e within all =
    let g : good_row chips fpics (Some net) ≡ true = sym (ap (good_row chips fpics) (held_is (get_or rows j None) net is)) ∙ good_at chips fpics rows all j in
    good_kept chips fpics rows rows' j (Some (record { ends = net.ends; lock = lock })) e
    (and_from (are_ends chips net.ends) (lock_within fpics lock) (and_parts (are_ends chips net.ends) (lock_within fpics net.lock) g).0 within) all

pub load_relocked : (limit : ℕ) (rows rows' : List (Option Net)) (j : ℕ) (net : Net) (lock : Option ℕ) → Ok net ≡ held (get_or rows j None) →
    rows' ≡ set rows j (Some (record { ends = net.ends; lock = lock })) → ((chip : ℕ) → load chip rows ≤ limit) → (chip : ℕ) → load chip rows' ≤ limit
load_relocked limit rows rows' j net lock is e all =
    load_kept limit rows rows' j (Some (record { ends = net.ends; lock = lock })) e (λ chip t. ap (ends_on chip) (held_is (get_or rows j None) net is) ∙ t) all
