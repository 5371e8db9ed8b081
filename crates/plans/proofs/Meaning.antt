-- What the clause list of a board says of a valuation, byte by byte; and what its literals are.
use Rattle.std.proofs.Common.{◌≡◌, ℕ, ◌+◌, ◌*◌, ◌<◌, ◌≤◌, Bool, true, not, eqb, List, [], ◌∷◌, ◌++◌, map, length, get_or, ℤ, pos, count_by, sym, refl, ap, ◌∙◌, add-one, arith}
use Rattle.std.proofs.ByRecursion.{All-append, All-map, All-weaker}
use Rattle.std.proofs.lemmas.Bool.{and_from, eq-eqb, eqb-true}
use Rattle.std.specs.List.{range_with_len, flat_map, AllByRecursion}
use Rattle.subsets.specs.Choose.{choose}
use Rattle.sat.specs.Formula.{every, is_true, is_zero, literals, satisfied}
use Rattle.board.specs.Held.{Held}
use Rattle.plans.specs.Clauses.{at_least_one, at_most_one, at_most_pins, clauses, goes, goes_not}
use Rattle.plans.specs.Nets.{nets_of, ranks_from}
use Rattle.plans.proofs.Blocks.{goes-reads}
use Rattle.plans.proofs.Elements.{all_joined, all_left, all_right, all_unjoined, all_unmap}
use Rattle.plans.proofs.Few.{all_choose, clauses_from_few, few_from_clauses, satisfied-map}
use Rattle.plans.proofs.Ranges.{all_counting, any_counting, counting_all, counting_any}
use Rattle.plans.proofs.Ranks.{ranks_below}

-- the byte of rank r and FPIC t is not 0
abbrev pub is_set : List ℕ → (k r t : ℕ) → Bool
is_set values k r t = not (eqb (get_or values (r * k + t) 0) 0)

-- each rank goes by some FPIC and by no two; of the ranks of a chip at most m go by one FPIC
pub record Meaning (held : Held) (values : List ℕ) : Type 0 where
  pub some : (r : ℕ) → r < length (nets_of held.rows) → (t : ℕ) × (t < held.fpics) × (get_or values (r * held.fpics + t) 0 ≡ 1)
  pub once : (r : ℕ) → r < length (nets_of held.rows) → count_by (is_set values held.fpics r) (range_with_len 0 held.fpics) < 2
  pub room : (chip t : ℕ) → 1 ≤ chip → chip ≤ held.chips → t < held.fpics →
      count_by (λ r. is_set values held.fpics r t) (ranks_from 0 chip (nets_of held.rows)) < held.pins + 1

abbrev Satisfied : List ℕ → List ℤ → Type 0
Satisfied values clause = satisfied values clause ≡ true

pub meaning : (held : Held) (values : List ℕ) → AllByRecursion (λ clause. satisfied values clause ≡ true) (clauses held) → Meaning held values
unfolding clauses
meaning held values h =
    let k = held.fpics in
    let nets = nets_of held.rows in
    let ranks = range_with_len 0 (length nets) in
    let S : List ℤ → Type 0 = Satisfied values in
    let firsts = map (at_least_one k) ranks in
    let pairs = flat_map (at_most_one k) ranks in
    let chips = range_with_len 1 held.chips in
    let sets = λ (chip : ℕ). flat_map (at_most_pins k held.pins nets chip) (range_with_len 0 k) in
    let one = all_unmap S (at_least_one k) ranks (all_left S firsts (pairs ++ flat_map sets chips) h) in
    let behind = all_right S firsts (pairs ++ flat_map sets chips) h in
    let two = all_unjoined S (at_most_one k) ranks (all_left S pairs (flat_map sets chips) behind) in
    let three = all_unjoined S sets chips (all_right S pairs (flat_map sets chips) behind) in
    record {
      some = λ r below.
          let c = counting_all (λ r. S (at_least_one k r)) 0 (length nets) one r (omega arith) (omega arith) in
          let w = counting_any (λ t. is_true values (goes k r t)) 0 k (sym (satisfied-map values (goes k r) (range_with_len 0 k)) ∙ c) in
          (w.0, omega (arith, w.2), eqb-true _ _ (sym (goes-reads values k r w.0) ∙ w.3));
      once = λ r below. few_from_clauses values (goes_not k r) 2 (range_with_len 0 k) (counting_all (λ r. AllByRecursion S (at_most_one k r)) 0 (length nets) two r (omega arith) (omega arith));
      room = λ chip t low high below.
          few_from_clauses values (λ r. goes_not k r t) (held.pins + 1) (ranks_from 0 chip nets)
          (counting_all (λ t. AllByRecursion S (at_most_pins k held.pins nets chip t)) 0 k
          (all_unjoined S (at_most_pins k held.pins nets chip) (range_with_len 0 k) (counting_all (λ chip. AllByRecursion S (sets chip)) 1 held.chips three chip low (omega arith)))
          t (omega arith) (omega arith));
    }

pub from_meaning : (held : Held) (values : List ℕ) → Meaning held values → AllByRecursion (λ clause. satisfied values clause ≡ true) (clauses held)
unfolding clauses
from_meaning held values m =
    let k = held.fpics in
    let nets = nets_of held.rows in
    let ranks = range_with_len 0 (length nets) in
    let S : List ℤ → Type 0 = Satisfied values in
    let chips = range_with_len 1 held.chips in
    let sets = λ (chip : ℕ). flat_map (at_most_pins k held.pins nets chip) (range_with_len 0 k) in
    All-append S (map (at_least_one k) ranks) (flat_map (at_most_one k) ranks ++ flat_map sets chips)
    (All-map S (at_least_one k) ranks
    (all_counting (λ r. S (at_least_one k r)) 0 (length nets)
    (λ r _ below.
    let w = m.some r (omega arith) in
    satisfied-map values (goes k r) (range_with_len 0 k)
    ∙ any_counting (λ t. is_true values (goes k r t)) 0 k w.0 (omega arith) (omega (arith, w.1)) (goes-reads values k r w.0 ∙ eq-eqb _ 1 w.2))))
    (All-append S (flat_map (at_most_one k) ranks) (flat_map sets chips)
    (all_joined S (at_most_one k) ranks
    (all_counting (λ r. AllByRecursion S (at_most_one k r)) 0 (length nets) (λ r _ below. clauses_from_few values (goes_not k r) 2 (range_with_len 0 k) (m.once r (omega arith)))))
    (all_joined S sets chips
    (all_counting (λ chip. AllByRecursion S (sets chip)) 1 held.chips
    (λ chip low high.
    all_joined S (at_most_pins k held.pins nets chip) (range_with_len 0 k)
    (all_counting (λ t. AllByRecursion S (at_most_pins k held.pins nets chip t)) 0 k
    (λ t _ below. clauses_from_few values (λ r. goes_not k r t) (held.pins + 1) (ranks_from 0 chip nets) (m.room chip t low (omega arith) (omega arith))))))))

-- ---- the literals of the clause list

every_map : {X : Type 0} (test : ℤ → Bool) (literal : X → ℤ) (xs : List X) → AllByRecursion (λ x. test (literal x) ≡ true) xs → every test (map literal xs) ≡ true
every_map test literal [] h = refl
every_map test literal (x ∷ xs) h = and_from (test (literal x)) _ h.0 (every_map test literal xs h.1)

every-choose : {X : Type 0} (test : ℤ → Bool) (literal : X → ℤ) (s : ℕ) (xs : List X) → AllByRecursion (λ x. test (literal x) ≡ true) xs →
    AllByRecursion (λ clause. every test clause ≡ true) (map (map literal) (choose s xs))
every-choose test literal s xs h =
    All-map (λ clause. every test clause ≡ true) (map literal) (choose s xs)
    (All-weaker (AllByRecursion (λ x. test (literal x) ≡ true)) (λ ys. every test (map literal ys) ≡ true) (every_map test literal) (choose s xs)
    (all_choose (λ x. test (literal x) ≡ true) s xs h))

-- a test that passes at the two literals of each rank and each FPIC passes at every literal
pub every_literal : (held : Held) (test : ℤ → Bool) →
    ((r t : ℕ) → r < length (nets_of held.rows) → t < held.fpics → (test (goes held.fpics r t) ≡ true) × (test (goes_not held.fpics r t) ≡ true)) →
    AllByRecursion (λ clause. every test clause ≡ true) (clauses held)
unfolding clauses
every_literal held test h =
    let k = held.fpics in
    let nets = nets_of held.rows in
    let n = length nets in
    let E : List ℤ → Type 0 = λ clause. every test clause ≡ true in
    let chips = range_with_len 1 held.chips in
    let sets = λ (chip : ℕ). flat_map (at_most_pins k held.pins nets chip) (range_with_len 0 k) in
    All-append E (map (at_least_one k) (range_with_len 0 n)) (flat_map (at_most_one k) (range_with_len 0 n) ++ flat_map sets chips)
    (All-map E (at_least_one k) (range_with_len 0 n)
    (all_counting (λ r. E (at_least_one k r)) 0 n
    (λ r _ below. every_map test (goes k r) (range_with_len 0 k) (all_counting (λ t. test (goes k r t) ≡ true) 0 k (λ t _ l. (h r t (omega arith) (omega arith)).0)))))
    (All-append E (flat_map (at_most_one k) (range_with_len 0 n)) (flat_map sets chips)
    (all_joined E (at_most_one k) (range_with_len 0 n)
    (all_counting (λ r. AllByRecursion E (at_most_one k r)) 0 n
    (λ r _ below. every-choose test (goes_not k r) 2 (range_with_len 0 k) (all_counting (λ t. test (goes_not k r t) ≡ true) 0 k (λ t _ l. (h r t (omega arith) (omega arith)).1)))))
    (all_joined E sets chips
    (all_counting (λ chip. AllByRecursion E (sets chip)) 1 held.chips
    (λ chip _ _.
    all_joined E (at_most_pins k held.pins nets chip) (range_with_len 0 k)
    (all_counting (λ t. AllByRecursion E (at_most_pins k held.pins nets chip t)) 0 k
    (λ t _ l.
    every-choose test (λ r. goes_not k r t) (held.pins + 1) (ranks_from 0 chip nets)
    (All-weaker (λ r. r < n) (λ r. test (goes_not k r t) ≡ true) (λ r below. (h r t below (omega arith)).1) (ranks_from 0 chip nets) (ranks_below 0 n chip nets (omega arith)))))))))

-- none is 0
pub no_zero : (held : Held) → AllByRecursion (λ clause. literals clause ≡ true) (clauses held)
no_zero held = every_literal held (λ z. not (is_zero z)) (λ r t _ _. (ap (λ n. not (is_zero (pos n))) (add-one (r * held.fpics + t)), refl))
