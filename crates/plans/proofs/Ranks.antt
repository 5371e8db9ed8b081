-- The held nets by rank: how many there are, how many end on a chip, and what holds of each.
use Rattle.std.proofs.Common.{◌≡◌, ℕ, suc, ◌+◌, ◌<◌, ◌≤◌, cond, List, [], ◌∷◌, length, get_or, is_some, Some, None, Option, sym, refl, ap, ◌∙◌, ⊎_elim, arith}
use Rattle.std.proofs.lemmas.List.Sums.{sum_by-cons}
use Rattle.std.proofs.lemmas.Bool.{cases_Bool, cond_both, cond-false, cond-true}
use Rattle.std.specs.List.{AllByRecursion}
use Rattle.board.specs.Rows.{ends_on, has_end, load, nets}
use Rattle.board.specs.declared.net.Net.{Net}
use Rattle.plans.specs.Nets.{nets_of, numbers_from, ranks_from}

pub length-nets : (rows : List (Option Net)) → length (nets_of rows) ≡ nets rows
unfolding nets
length-nets [] = refl
length-nets (None ∷ rows) = length-nets rows ∙ sym (sum_by-cons (λ row. cond (is_some row) 1 0) None rows ∙ omega arith)
length-nets (Some net ∷ rows) = ap suc (length-nets rows) ∙ sym (sum_by-cons (λ row. cond (is_some row) 1 0) (Some net) rows ∙ omega arith)

pub length_numbers : (n : ℕ) (rows : List (Option Net)) → length (numbers_from n rows) ≡ length (nets_of rows)
length_numbers n [] = refl
length_numbers n (None ∷ rows) = length_numbers (n + 1) rows
length_numbers n (Some net ∷ rows) = ap suc (length_numbers (n + 1) rows)

pub length_ranks : (r chip : ℕ) (rows : List (Option Net)) → length (ranks_from r chip (nets_of rows)) ≡ load chip rows
unfolding load
length_ranks r chip [] = refl
length_ranks r chip (None ∷ rows) = length_ranks r chip rows ∙ sym (sum_by-cons (λ row. cond (ends_on chip row) 1 0) None rows ∙ omega arith)
length_ranks r chip (Some net ∷ rows) =
    let more = sum_by-cons (λ row. cond (ends_on chip row) 1 0) (Some net) rows in
    ⊎_elim
    (λ e.
    let here = ap length (cond-true (has_end net.ends chip) (r ∷ ranks_from (r + 1) chip (nets_of rows)) (ranks_from (r + 1) chip (nets_of rows)) e) in
    let one : ◌≡◌ {A = ℕ} (cond (has_end net.ends chip) 1 0) 1 = ap (λ b. cond b 1 0) e in
    omega (arith, here, more, length_ranks (r + 1) chip rows))
    (λ e.
    let here = ap length (cond-false (has_end net.ends chip) (r ∷ ranks_from (r + 1) chip (nets_of rows)) (ranks_from (r + 1) chip (nets_of rows)) e) in
    let one : ◌≡◌ {A = ℕ} (cond (has_end net.ends chip) 1 0) 0 = ap (λ b. cond b 1 0) e in
    omega (arith, here, more, length_ranks (r + 1) chip rows))
    (cases_Bool (has_end net.ends chip))

-- a chip's ranks are ranks of nets
pub ranks_below : (r n chip : ℕ) (nets : List Net) → r + length nets ≤ n → AllByRecursion (λ rank. rank < n) (ranks_from r chip nets)
ranks_below r n chip [] h = tt
ranks_below r n chip (net ∷ nets) h =
    let rest = ranks_below (r + 1) n chip nets (omega arith) in
    cond_both (has_end net.ends chip) (r ∷ ranks_from (r + 1) chip nets) (ranks_from (r + 1) chip nets) (AllByRecursion (λ rank. rank < n)) (λ _. (omega arith, rest)) (λ _. rest)

-- what holds of each row's net holds of each held net
pub all_nets : (P : Net → Type 0) (rows : List (Option Net)) → ((i : ℕ) (net : Net) → get_or rows i None ≡ Some net → P net) → AllByRecursion P (nets_of rows)
all_nets P [] h = tt
all_nets P (None ∷ rows) h = all_nets P rows (λ i. h (suc i))
all_nets P (Some net ∷ rows) h = (h 0 net refl, all_nets P rows (λ i. h (suc i)))
