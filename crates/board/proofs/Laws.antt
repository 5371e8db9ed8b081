-- The laws of boards, from the invariant and from what the calls leave.
use Rattle.std.proofs.Common.{◌≡◌, ℕ, zero, suc, ◌-◌, ◌*◌, ◌/◌, ◌%◌, ◌^◌, ◌<◌, ◌≤◌, true, ◌&&◌, eqb, ltb, leb, length, Some, sym, ap, ◌∙◌, ⊎_elim, arith, shr-shr}
use lib.Count.{ones, ones_step}
use Rattle.std.proofs.lemmas.Bool.{and_parts, leb-true, ltb-true, eq-eqb, cases_lt}
use Rattle.board.specs.declared.net.Net.{Net}
use Rattle.board.specs.Held.{Held}
use Rattle.board.specs.Laws.{Lawful, LawfulNet, LowestFullEnd}
use Rattle.board.specs.Rows.{are_ends, good_row, has_end, in_limits, load, lock_within, lowest_full_in}
use Rattle.board.proofs.Ends.{end_low, end_high}
use Rattle.board.specs.Views.{held_in}
use Rattle.board.specs.declared.rack.Rack.{Rack}
use Rattle.board.proofs.Full.{named_full}
use Rattle.board.proofs.Rows.{Good, good_at}

-- ---- two ends from the count of ones

-- the end at a place of the halved set is one place further in the set
end_up : (n chip : ℕ) → has_end (n / 2) chip ≡ true → has_end n (suc chip) ≡ true
unfolding has_end
end_up n zero e = absurd (let z : ◌≡◌ {A = ℕ} 0 1 = cc in omega arith)
end_up n (suc place) e = ap (λ m. eqb (m % 2) 1) (sym (halves n place)) ∙ e
  where
    halves : (n place : ℕ) → n / 2 / 2 ^ place ≡ n / 2 ^ suc place
    halves n place = shr-shr n 1 place ∙ ap (λ x. n / 2 ^ x) (omega arith)

-- the lowest bit is chip 1
end_one : (n : ℕ) → n % 2 ≡ 1 → has_end n 1 ≡ true
unfolding has_end
end_one n e = let h : n / 2 ^ 0 % 2 ≡ 1 = omega arith in eq-eqb (n / 2 ^ 0 % 2) 1 h

no_ones : (n : ℕ) → n ≡ 0 → ones n ≡ 0
unfolding ones
no_ones n e = ap ones e

-- a set with a one holds a chip, and a set with two holds two; w bounds the set
one_end : (w n : ℕ) → n ≤ w → 1 ≤ ones n → (a : ℕ) × (1 ≤ a) × (has_end n a ≡ true)
one_end zero n h one = absurd (omega (arith, no_ones n (omega arith)))
one_end (suc w) n h one =
    ⊎_elim
    (λ l.
    let rest = one_end w (n / 2) (omega (arith, no_ones n)) (omega (arith, ones_step n)) in
    (suc rest.0, omega arith, end_up n rest.0 rest.2))
    (λ l. (1, omega arith, end_one n (omega arith)))
    (cases_lt (n % 2) 1)

two_ends : (w n : ℕ) → n ≤ w → 2 ≤ ones n → (a : ℕ) × (b : ℕ) × (a < b) × (has_end n a ≡ true) × (has_end n b ≡ true)
two_ends zero n h two = absurd (omega (arith, no_ones n (omega arith)))
two_ends (suc w) n h two =
    ⊎_elim
    (λ l.
    let rest = two_ends w (n / 2) (omega arith) (omega (arith, ones_step n)) in
    (suc rest.0, suc rest.1, omega (arith, rest.2), end_up n rest.0 rest.3, end_up n rest.1 rest.4))
    (λ l.
    let rest = one_end w (n / 2) (omega arith) (omega (arith, ones_step n)) in
    (1, suc rest.0, omega (arith, rest.1), end_one n (omega arith), end_up n rest.0 rest.2))
    (cases_lt (n % 2) 1)

-- ---- what holds of every board

lawful_net : (held : Held) (net : Net) → good_row held.chips held.fpics (Some net) ≡ true → LawfulNet held net
lawful_net held net g =
    let parts = and_parts (are_ends held.chips net.ends) (lock_within held.fpics net.lock) g in
    let fit = and_parts (leb 2 (ones net.ends)) (ltb net.ends (2 ^ held.chips)) parts.0 in
    record {
      two = two_ends net.ends net.ends (omega arith) (leb-true 2 (ones net.ends) fit.0);
      ends = λ chip e. (end_low net.ends chip e, end_high held.chips net.ends chip (ltb-true net.ends (2 ^ held.chips) fit.1) e);
      lock = λ letter e. ltb-true letter held.fpics (sym (ap (lock_within held.fpics) e) ∙ parts.1);
    }

pub lawful : (held : Held) → in_limits held.chips held.fpics held.pins ≡ true → length held.rows ≡ 128 →
    Good held.chips held.fpics held.rows →
    ((chip : ℕ) → load chip held.rows ≤ held.fpics * held.pins) → Lawful held
lawful held sized long good loads =
    let s = and_parts (leb 2 held.chips && leb held.chips 32) ((leb 1 held.fpics && leb held.fpics 8) && (leb 1 held.pins && leb held.pins 4)) sized in
    let t = and_parts (leb 1 held.fpics && leb held.fpics 8) (leb 1 held.pins && leb held.pins 4) s.1 in
    record {
      chips = between 2 32 held.chips s.0;
      fpics = between 1 8 held.fpics t.0;
      pins = between 1 4 held.pins t.1;
      numbers = long;
      nets = λ number net e. lawful_net held net (sym (ap (good_row held.chips held.fpics) e) ∙ good_at held.chips held.fpics held.rows good (number - 1));
      loads = loads;
    }
  where
    between : (low high n : ℕ) → (leb low n && leb n high) ≡ true → (low ≤ n) × (n ≤ high)
    between low high n e = let b = and_parts (leb low n) (leb n high) e in (leb-true low n b.0, leb-true n high b.1)

pub lawful_rack : (rack : Rack) → Lawful (held_in rack)
lawful_rack rack = lawful (held_in rack) rack.sizes.sized rack.table.long rack.good rack.loads

-- ---- the chip that is named

pub lowest_full_end : (held : Held) (ends chip : ℕ) → ((c : ℕ) → load c held.rows ≤ held.fpics * held.pins) →
    lowest_full_in (held.fpics * held.pins) held.rows ends ≡ Some chip → LowestFullEnd held ends chip
lowest_full_end held ends chip loads e =
    let named = named_full (held.fpics * held.pins) held.rows ends chip e in
    record { end = named.end; full = omega (arith, named.full, loads chip); lowest = named.lowest }
