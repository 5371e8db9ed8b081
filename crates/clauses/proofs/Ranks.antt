-- The ranks of each chip's nets, net by net.
use Rattle.std.proofs.Common.{◌≡◌, ℕ, ◌+◌, ◌-◌, ◌<◌, ◌≤◌, true, false, cond, leb, List, [], ◌∷◌, ◌++◌, length, get_or, take, Some, None, Option, sym, refl, ap, ◌∙◌, ap₂, add-zero, zero-add, arith}
use Rattle.std.proofs.lemmas.List.{append-nil, length-append, length-take, take_more}
use Rattle.std.proofs.lemmas.List.Sums.{sum_by_more, sum_by-take-le}
use Rattle.std.proofs.lemmas.Bool.{and_from, le-leb}
use Rattle.std.proofs.lemmas.Nat.{mul-le}
use Rattle.board.specs.declared.net.Net.{Net}
use Rattle.board.specs.Finds.{is_number}
use Rattle.board.specs.Held.{Held}
use Rattle.board.specs.Laws.{Lawful}
use Rattle.board.specs.Rows.{ends_on, has_end, load, row_of}
use Rattle.plans.proofs.Ranks.{length_ranks}
use Rattle.plans.proofs.WellFormed.{nets_at_most}
use Rattle.plans.specs.Nets.{nets_of, ranks_from}
use Rattle.clauses.specs.declared.ranking.Ranking.{Ranking}
use Rattle.clauses.specs.Ranks.{ranks_at, Ranks}

-- ---- the ranks of a chip

-- one net more
nets_more : (rows : List (Option Net)) (row : Option Net) → nets_of (rows ++ (row ∷ [])) ≡ nets_of rows ++ nets_of (row ∷ [])
nets_more [] row = refl
nets_more (None ∷ rows) row = nets_more rows row
nets_more (Some net ∷ rows) row = ap (λ l. net ∷ l) (nets_more rows row)

ranks_more : (rank chip : ℕ) (nets : List Net) (net : Net) → ranks_from rank chip (nets ++ (net ∷ [])) ≡ ranks_from rank chip nets ++ cond (has_end net.ends chip) ((rank + length nets) ∷ []) []
ranks_more rank chip [] net = ap (λ r. cond (has_end net.ends chip) (r ∷ []) []) (sym (add-zero rank))
ranks_more rank chip (first ∷ nets) net =
    let e : rank + 1 + length nets ≡ rank + length (first ∷ nets) = omega arith in
    let rest : ranks_from (rank + 1) chip (nets ++ (net ∷ [])) ≡ ranks_from (rank + 1) chip nets ++ cond (has_end net.ends chip) ((rank + length (first ∷ nets)) ∷ []) [] =
    ranks_more (rank + 1) chip nets net ∙ ap (λ r. ranks_from (rank + 1) chip nets ++ cond (has_end net.ends chip) (r ∷ []) []) e in
    elim (has_end first.ends chip) as (λ b.
    cond b (rank ∷ ranks_from (rank + 1) chip (nets ++ (net ∷ []))) (ranks_from (rank + 1) chip (nets ++ (net ∷ []))) ≡
    cond b (rank ∷ ranks_from (rank + 1) chip nets) (ranks_from (rank + 1) chip nets) ++ cond (has_end net.ends chip) ((rank + length (first ∷ nets)) ∷ []) [])
    [ true ↦ ap (λ l. rank ∷ l) rest | false ↦ rest ]

-- ---- ranking row by row

-- a chip has at most 32 nets
pub few_loads : (held : Held) → Lawful held → (chip : ℕ) → load chip held.rows ≤ 32
few_loads held lawful chip = omega (arith, lawful.loads chip, mul-le held.fpics held.pins 8 4 lawful.fpics.1 lawful.pins.1)

-- the row that a board answers
pub row_at : (rows : List (Option Net)) (number : ℕ) (row : Option Net) → 1 ≤ number → number ≤ 128 → row ≡ cond (is_number number) (row_of rows number) None → get_or rows (number - 1) None ≡ row
row_at rows number row l h e =
    let test : is_number number ≡ true = and_from (leb 1 number) (leb number 128) (le-leb 1 number l) (le-leb number 128 h) in
    sym (e ∙ ap (λ b. cond b (row_of rows number) None) test)

module _ (rows : List (Option Net)) (i : ℕ) (inside : i < length rows) where
  -- an empty row
  pub ranks_gap : (ranking : Ranking) → get_or rows i None ≡ None → Ranks (take i rows) ranking → Ranks (take (i + 1) rows) ranking
  ranks_gap ranking gap before =
      let same : nets_of (take (i + 1) rows) ≡ nets_of (take i rows) =
      ap nets_of (take_more rows i None inside) ∙ nets_more (take i rows) (get_or rows i None) ∙ ap (λ row. nets_of (take i rows) ++ nets_of (row ∷ [])) gap ∙ append-nil (nets_of (take i rows)) in
      record {
        nets = before.nets ∙ ap length (sym same);
        lists = λ place. before.lists place ∙ ap (ranks_from 0 (place + 1)) (sym same);
      }

  -- a net
  module _ (net : Net) (row : get_or rows i None ≡ Some net) (old : Ranking) (before : Ranks (take i rows) old) where
    more : nets_of (take (i + 1) rows) ≡ nets_of (take i rows) ++ (net ∷ [])
    more = ap nets_of (take_more rows i None inside) ∙ nets_more (take i rows) (get_or rows i None) ∙ ap (λ row. nets_of (take i rows) ++ nets_of (row ∷ [])) row

    pub ranks_net : (ranking : Ranking) → ranking.nets ≡ old.nets + 1 →
        ((place : ℕ) → ranks_at ranking place ≡ ranks_at old place ++ cond (has_end net.ends (place + 1)) (old.nets ∷ []) []) → Ranks (take (i + 1) rows) ranking
    ranks_net ranking n entered =
        record {
          nets = n ∙ ap (λ k. k + 1) before.nets ∙ sym (ap length more ∙ length-append (nets_of (take i rows)) (net ∷ []));
          lists = λ place.
              entered place ∙ ap₂ (λ (l : List ℕ) (k : ℕ). l ++ cond (has_end net.ends (place + 1)) (k ∷ []) []) (before.lists place) before.nets
              ∙ sym (ap (ranks_from 0 (place + 1)) more ∙ ranks_more 0 (place + 1) (nets_of (take i rows)) net ∙ ap (λ k. ranks_from 0 (place + 1) (nets_of (take i rows)) ++ cond (has_end net.ends (place + 1)) (k ∷ []) []) (zero-add (length (nets_of (take i rows)))));
        }

    pub ranks_below : length rows ≤ 128 → old.nets < 128
    ranks_below h = omega (arith, before.nets, nets_at_most (take i rows), length-take i rows)

    pub ranks_room : ((chip : ℕ) → load chip rows ≤ 32) → (place : ℕ) → has_end net.ends (place + 1) ≡ true → length (ranks_at old place) < 32
    unfolding load
    ranks_room loads place end =
        let one : ◌≡◌ {A = ℕ} (cond (ends_on (place + 1) (get_or rows i None)) 1 0) 1 = ap (λ r. cond (ends_on (place + 1) r) 1 0) row ∙ ap (λ b. cond b 1 0) end in
        omega (
          arith,
          ap length (before.lists place) ∙ length_ranks 0 (place + 1) (take i rows),
          sum_by_more (λ r. cond (ends_on (place + 1) r) 1 0) rows i None inside,
          sum_by-take-le (λ r. cond (ends_on (place + 1) r) 1 0) rows (i + 1),
          loads (place + 1),
        )
