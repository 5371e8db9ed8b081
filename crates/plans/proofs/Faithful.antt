-- The formula is faithful: plans that fit the rack and valuations that satisfy its formula are the same, one to one.
use Rattle.std.proofs.Common.{◌≡◌, ℕ, zero, suc, ◌+◌, ◌*◌, ◌/◌, ◌%◌, ◌<◌, ◌≤◌, true, eqb, List, [], ◌∷◌, map, length, get_or, ℤ, count_by, sym, refl, ap, ◌∙◌, subst, ⊎_elim, arith}
use Rattle.std.proofs.lemmas.Nat.{div-add-mod', div_below, mod_below, mul-add-lt}
use Rattle.std.proofs.ByRecursion.{All-from_get_or, All-get_or, All-map}
use Rattle.std.proofs.lemmas.List.{ext_get_or, length-map}
use Rattle.std.proofs.lemmas.Bool.{cases_order}
use Rattle.std.proofs.lemmas.Bool.Decides.{nat_tests}
use Rattle.std.specs.List.{range_with_len, AllByRecursion}
use Rattle.sat.specs.Formula.{encode, is_true, satisfied}
use Rattle.sat.specs.Question.{Models}
use Rattle.board.specs.Held.{Held}
use Rattle.board.specs.Laws.{Lawful}
use Rattle.plans.specs.Clauses.{clauses, valuation_of}
use Rattle.plans.specs.Laws.{Faithful}
use Rattle.plans.specs.Nets.{nets_of, numbers_from, ranks_from}
use Rattle.plans.specs.Plans.{Fits, Row}
use Rattle.plans.proofs.Blocks.{bits, byte_at, length_valuation, letters_once, valuation_letters, valuation_by}
use Rattle.plans.proofs.Elements.{all_unmap}
use Rattle.plans.proofs.Encoding.{clauses_of-encode}
use Rattle.plans.proofs.Letters.{letters, plan_of, plan_of_letters, plan_of_numbers, same_plans}
use Rattle.plans.proofs.Meaning.{Meaning, from_meaning, is_set, meaning, no_zero}
use Rattle.plans.proofs.Ranges.{count_one, one_counted}
use Rattle.plans.proofs.Ranks.{length_numbers}
use Rattle.plans.proofs.Sharing.{room_everywhere, sharing, sharing_ranks, uses_sharing}

-- ---- from a plan to its valuation

pub length_fits : (held : Held) (plan : List Row) → Fits held plan → length (letters plan) ≡ length (nets_of held.rows)
length_fits held plan f =
    length-map plan (λ row. row.fpic) ∙ sym (length-map plan (λ row. row.number)) ∙ ap length f.nets ∙ length_numbers 1 held.rows

pub letters_small : (held : Held) (plan : List Row) → Fits held plan → AllByRecursion (λ l. l < held.fpics) (letters plan)
letters_small held plan f = All-map (λ l. l < held.fpics) (λ row. row.fpic) plan f.fpics

-- a byte is set where it is that of the letter
pub set-letter : (k : ℕ) (ls : List ℕ) (r t : ℕ) → r < length ls → t < k → is_set (valuation_by k ls) k r t ≡ eqb (get_or ls r 0) t
set-letter k ls r t in' below = let byte = byte_at k ls r t in' below in grind (arith, nat_tests)

pub plan_means : (held : Held) (plan : List Row) → Fits held plan → Meaning held (valuation_by held.fpics (letters plan))
plan_means held plan f =
    let k = held.fpics in
    let ls = letters plan in
    let long : length ls ≡ length (nets_of held.rows) = length_fits held plan f in
    record {
      some = λ r below.
          let small : get_or ls r 0 < k = All-get_or (λ l. l < k) ls r 0 (omega arith) (letters_small held plan f) in
          let byte = byte_at k ls r (get_or ls r 0) (omega arith) small in
          (get_or ls r 0, small, (grind (arith, nat_tests)));
      once = λ r below.
          count_one (is_set (valuation_by k ls) k r) 0 k
          (λ i j less high s t.
          let a = set-letter k ls r i (omega arith) (omega arith) in
          let b = set-letter k ls r j (omega arith) (omega arith) in
          grind (arith, nat_tests));
      room = λ chip t low high below.
          let ranked = sharing_ranks (λ r. is_set (valuation_by k ls) k r t) chip t 0 (nets_of held.rows) ls (sym long)
          (λ i in'. ap (λ r. is_set (valuation_by k ls) k r t) (omega arith) ∙ set-letter k ls i t in' below) in
          omega (arith, ranked, uses_sharing held plan f.nets chip t, f.room chip t);
    }

-- ---- from a valuation to its plan

-- a number for each place of a list
gathered : (P : ℕ → ℕ → Type 0) (n a : ℕ) → ((r : ℕ) → a ≤ r → r < a + n → (t : ℕ) × P r t) → (ls : List ℕ) × (length ls ≡ n) × ((i : ℕ) → i < n → P (a + i) (get_or ls i 0))
gathered P zero a h = ([], refl, λ i below. absurd (omega arith))
gathered P (suc n) a h =
    let first = h a (omega arith) (omega arith) in
    let rest = gathered P n (a + 1) (λ r low high. h r (omega arith) (omega arith)) in
    (first.0 ∷ rest.0, ap suc rest.1, places first.0 rest.0 first.1 rest.2)
  where
    places : (l : ℕ) (ls : List ℕ) → P a l → ((i : ℕ) → i < n → P (a + 1 + i) (get_or ls i 0)) → (i : ℕ) → i < suc n → P (a + i) (get_or (l ∷ ls) i 0)
    places l ls here there zero below = subst (λ r. P r l) (omega arith) here
    places l ls here there (suc i) below = subst (λ r. P r (get_or ls i 0)) (omega arith) (there i (omega arith))

-- a block of bytes with one that is set is that of its letter
module _ (k n : ℕ) (values ls : List ℕ) (bytes : AllByRecursion (λ byte. byte ≤ 1) values) (size : length values ≡ n * k) (long : length ls ≡ n) where
  block_read : (r t : ℕ) → r < n → t < k → get_or ls r 0 < k → get_or values (r * k + get_or ls r 0) 0 ≡ 1 → count_by (is_set values k r) (range_with_len 0 k) < 2 →
      get_or (valuation_by k ls) (r * k + t) 0 ≡ get_or values (r * k + t) 0
  block_read r t in' below small one once =
      let byte = byte_at k ls r t (omega arith) below in
      let bit : get_or values (r * k + t) 0 ≤ 1 = All-get_or (λ byte. byte ≤ 1) values (r * k + t) 0 (omega (arith, mul-add-lt r k t n in' below)) bytes in
      let first : get_or ls r 0 < t → is_set values k r (get_or ls r 0) ≡ true → is_set values k r t ≡ true → ⊥ =
      λ l. one_counted (is_set values k r) 0 k once (get_or ls r 0) t (omega arith) l (omega arith) in
      let second : t < get_or ls r 0 → is_set values k r t ≡ true → is_set values k r (get_or ls r 0) ≡ true → ⊥ =
      λ l. one_counted (is_set values k r) 0 k once t (get_or ls r 0) (omega arith) l (omega arith) in
      ⊎_elim
      (λ e. let same : get_or values (r * k + t) 0 ≡ 1 = ap (λ x. get_or values (r * k + x) 0) e ∙ one in grind (arith, nat_tests))
      (λ differ. grind (arith, nat_tests, differ))
      (cases_order t (get_or ls r 0))

  bytes_read : 0 < k → ((r : ℕ) → r < n → (get_or ls r 0 < k) × (get_or values (r * k + get_or ls r 0) 0 ≡ 1)) → ((r : ℕ) → r < n → count_by (is_set values k r) (range_with_len 0 k) < 2) →
      (i : ℕ) → i < n * k → get_or (valuation_by k ls) i 0 ≡ get_or values i 0
  bytes_read pos at once i in' =
      let row : i / k < n = div_below i k n pos in' in
      let place : i / k * k + i % k ≡ i = div-add-mod' i k in
      ap (λ j. get_or (valuation_by k ls) j 0) (sym place)
      ∙ block_read (i / k) (i % k) row (mod_below i k pos) (at (i / k) row).0 (at (i / k) row).1 (once (i / k) row)
      ∙ ap (λ j. get_or values j 0) place

-- the letters of a valuation that keeps the clauses; the valuation is theirs
pub letters_of : (held : Held) → 1 ≤ held.fpics → (values : List ℕ) → length values ≡ length (nets_of held.rows) * held.fpics → AllByRecursion (λ byte. byte ≤ 1) values → Meaning held values →
    (ls : List ℕ) × (length ls ≡ length (nets_of held.rows)) × AllByRecursion (λ l. l < held.fpics) ls × (valuation_by held.fpics ls ≡ values)
letters_of held pos values size bytes m =
    let k = held.fpics in
    let n = length (nets_of held.rows) in
    let g = gathered (λ r t. (t < k) × (get_or values (r * k + t) 0 ≡ 1)) n 0 (λ r low high. let w = m.some r (omega arith) in (w.0, (w.1, w.2))) in
    let ls : List ℕ = g.0 in
    let at : (r : ℕ) → r < n → (get_or ls r 0 < k) × (get_or values (r * k + get_or ls r 0) 0 ≡ 1) =
    λ r below. subst (λ x. (get_or ls r 0 < k) × (get_or values (x * k + get_or ls r 0) 0 ≡ 1)) (omega arith) (g.2 r below) in
    let long : length ls ≡ n = g.1 in
    let whole : length (valuation_by k ls) ≡ n * k = length_valuation k ls ∙ ap (λ x. x * k) long in (
      ls,
      long,
      All-from_get_or (λ l. l < k) ls 0 (λ r in'. (at r (omega arith)).0),
      ext_get_or 0 (valuation_by k ls) values (whole ∙ sym size) (λ i in'. bytes_read k n values ls bytes size long pos at m.once i (omega arith)),
    )

pub valuation_plan : (held : Held) → Lawful held → (values : List ℕ) → length values ≡ length (nets_of held.rows) * held.fpics → AllByRecursion (λ byte. byte ≤ 1) values → Meaning held values →
    (plan : List Row) × Fits held plan × (valuation_of held.fpics plan ≡ values)
valuation_plan held lawful values size bytes m =
    let k = held.fpics in
    let nets = nets_of held.rows in
    let numbers = numbers_from 1 held.rows in
    let found = letters_of held lawful.fpics.0 values size bytes m in
    let ls : List ℕ = found.0 in
    let long : length numbers ≡ length ls = length_numbers 1 held.rows ∙ sym found.1 in
    let plan : List Row = plan_of numbers ls in
    let is-letters : letters plan ≡ ls = plan_of_letters numbers ls long in
    let is-numbers : map (λ row. row.number) plan ≡ numbers = plan_of_numbers numbers ls long in
    let room : (chip t : ℕ) → sharing chip t nets ls ≤ held.pins =
    room_everywhere held lawful ls found.2
    (λ chip t low high below.
    let ranked = sharing_ranks (λ r. is_set (valuation_by k ls) k r t) chip t 0 nets ls (sym found.1)
    (λ i in'. ap (λ r. is_set (valuation_by k ls) k r t) (omega arith) ∙ set-letter k ls i t in' below) in
    let counted = subst (λ v. count_by (λ r. is_set v k r t) (ranks_from 0 chip nets) < held.pins + 1) (sym found.3) (m.room chip t low high below) in
    omega arith) in (
      plan,
      record {
        nets = is-numbers;
        fpics = all_unmap (λ l. l < k) (λ row. row.fpic) plan (subst (AllByRecursion (λ l. l < k)) (sym is-letters) found.2);
        room = λ chip t. omega (arith, uses_sharing held plan is-numbers chip t, ap (sharing chip t nets) is-letters, room chip t);
      },
      valuation_letters k plan ∙ ap (valuation_by k) is-letters ∙ found.3,
    )

-- ---- the formula

-- a valuation that answers the question keeps what the clauses say, and one that does answers it
pub models_mean : (held : Held) (v : ℕ) (assumed : List ℤ) (values : List ℕ) → Models v (encode (clauses held)) assumed values → Meaning held values
models_mean held v assumed values m =
    meaning held values (subst (AllByRecursion (λ clause. satisfied values clause ≡ true)) (clauses_of-encode (clauses held) (no_zero held)) m.clauses)

pub plan_models : (held : Held) (plan : List Row) (assumed : List ℤ) → Fits held plan → AllByRecursion (λ z. is_true (valuation_of held.fpics plan) z ≡ true) assumed →
    Models (length (nets_of held.rows) * held.fpics) (encode (clauses held)) assumed (valuation_of held.fpics plan)
plan_models held plan assumed f kept =
    let k = held.fpics in
    let same = valuation_letters k plan in
    let sat = from_meaning held (valuation_by k (letters plan)) (plan_means held plan f) in
    record {
      size = ap length same ∙ length_valuation k (letters plan) ∙ ap (λ n. n * k) (length_fits held plan f);
      bits = subst (AllByRecursion (λ byte. byte ≤ 1)) (sym same) (bits k (letters plan));
      clauses = subst (AllByRecursion (λ clause. satisfied (valuation_of k plan) clause ≡ true)) (sym (clauses_of-encode (clauses held) (no_zero held)))
          (subst (λ v. AllByRecursion (λ clause. satisfied v clause ≡ true) (clauses held)) (sym same) sat);
      kept = kept;
    }

pub models_plan : (held : Held) → Lawful held → (assumed : List ℤ) (values : List ℕ) → Models (length (nets_of held.rows) * held.fpics) (encode (clauses held)) assumed values →
    (plan : List Row) × Fits held plan × (valuation_of held.fpics plan ≡ values)
models_plan held lawful assumed values m = valuation_plan held lawful values m.size m.bits (models_mean held _ assumed values m)

pub one_plan : (held : Held) (plan other : List Row) → Fits held plan → Fits held other → valuation_of held.fpics plan ≡ valuation_of held.fpics other → plan ≡ other
one_plan held plan other f g e =
    let k = held.fpics in
    same_plans plan other (f.nets ∙ sym g.nets)
    (letters_once k (letters plan) (letters other) (length_fits held plan f ∙ sym (length_fits held other g)) (letters_small held plan f)
    (sym (valuation_letters k plan) ∙ e ∙ valuation_letters k other))

pub faithful : (held : Held) → Lawful held → Faithful held
faithful held lawful =
    record {
      plan_satisfies = λ plan f. plan_models held plan [] f tt;
      valuation_plans = λ values m. models_plan held lawful [] values m;
      one_plan = λ plan other f g e. one_plan held plan other f g e;
    }
