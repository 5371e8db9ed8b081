-- A valuation of letters by rank: for each letter a block of k bytes, 1 at the letter and 0 elsewhere.
use Rattle.std.proofs.Common.{◌≡◌, ℕ, zero, suc, ◌+◌, ◌*◌, ◌<◌, ◌≤◌, cond, eqb, List, [], ◌∷◌, ◌++◌, map, length, get_or, pos, Decides, refl, ap, ◌∙◌, add-one, arith}
use Rattle.std.proofs.lemmas.List.FromFn.{get_or-map-range_with_len, length-map-range_with_len}
use Rattle.std.proofs.ByRecursion.{All-append, All-get_or, All-map}
use Rattle.std.proofs.lemmas.List.{ext_get_or, get_or-append-add, get_or_append_left, length-append}
use Rattle.std.proofs.lemmas.Bool.{cond_both}
use Rattle.std.proofs.lemmas.Bool.Decides.{nat_tests}
use Rattle.std.specs.List.{range_with_len, flat_map, AllByRecursion}
use Rattle.sat.specs.Formula.{is_true}
use Rattle.plans.specs.Clauses.{goes, valuation_of}
use Rattle.plans.specs.Plans.{Row}
use Rattle.plans.proofs.Elements.{all_of}
use Rattle.plans.proofs.Letters.{letters}

abbrev pub block : ℕ → ℕ → List ℕ
block k letter = map (λ t. cond (eqb t letter) 1 0) (range_with_len 0 k)

abbrev pub valuation_by : ℕ → List ℕ → List ℕ
valuation_by k ls = flat_map (block k) ls

-- the valuation of a plan is that of its letters
pub valuation_letters : (k : ℕ) (plan : List Row) → valuation_of k plan ≡ valuation_by k (letters plan)
valuation_letters k [] = refl
valuation_letters k (row ∷ plan) = ap (λ rest. block k row.fpic ++ rest) (valuation_letters k plan)

length_block : (k letter : ℕ) → length (block k letter) ≡ k
length_block k letter = length-map-range_with_len (λ t. cond (eqb t letter) 1 0) 0 k

pub length_valuation : (k : ℕ) (ls : List ℕ) → length (valuation_by k ls) ≡ length ls * k
length_valuation k [] = omega arith
length_valuation k (l ∷ ls) = length-append (block k l) (valuation_by k ls) ∙ omega (arith, length_block k l, length_valuation k ls)

-- the byte of rank r and FPIC t
pub byte_at : (k : ℕ) (ls : List ℕ) (r t : ℕ) → r < length ls → t < k → get_or (valuation_by k ls) (r * k + t) 0 ≡ cond (eqb t (get_or ls r 0)) 1 0
byte_at k [] r t in' below = absurd (omega arith)
byte_at k (l ∷ ls) zero t in' below =
    ap (λ i. get_or (valuation_by k (l ∷ ls)) i 0) (omega arith)
    ∙ get_or_append_left (block k l) (valuation_by k ls) 0 t (omega (arith, length_block k l))
    ∙ get_or-map-range_with_len (λ t. cond (eqb t l) 1 0) 0 k t t 0 below (omega arith)
byte_at k (l ∷ ls) (suc r) t in' below =
    ap (λ i. get_or (valuation_by k (l ∷ ls)) i 0) (omega (arith, length_block k l))
    ∙ get_or-append-add (block k l) (valuation_by k ls) (r * k + t) 0
    ∙ byte_at k ls r t (omega arith) below

pub bits : (k : ℕ) (ls : List ℕ) → AllByRecursion (λ byte. byte ≤ 1) (valuation_by k ls)
bits k [] = tt
bits k (l ∷ ls) =
    All-append (λ byte. byte ≤ 1) (block k l) (valuation_by k ls)
    (All-map (λ byte. byte ≤ 1) (λ t. cond (eqb t l) 1 0) (range_with_len 0 k)
    (all_of (λ t. cond (eqb t l) 1 0 ≤ 1) (λ t. cond_both (eqb t l) 1 0 (λ b. b ≤ 1) (λ _. omega arith) (λ _. omega arith)) (range_with_len 0 k)))
    (bits k ls)

-- the literal of rank r and FPIC t reads that byte
pub goes-reads : (values : List ℕ) (k r t : ℕ) → is_true values (goes k r t) ≡ eqb (get_or values (r * k + t) 0) 1
goes-reads values k r t = ap (λ n. is_true values (pos n)) (add-one (r * k + t))

-- it is true where the letter of rank r is t
pub goes-true : (k : ℕ) (ls : List ℕ) (r t : ℕ) → r < length ls → t < k → Decides (is_true (valuation_by k ls) (goes k r t)) (get_or ls r 0 ≡ t)
goes-true k ls r t in' below =
    let reads = goes-reads (valuation_by k ls) k r t in
    let byte = byte_at k ls r t in' below in
    (λ e. grind (arith, nat_tests), λ e. grind (arith, nat_tests))

-- two lists of letters with one valuation are equal
pub letters_once : (k : ℕ) (ls ms : List ℕ) → length ls ≡ length ms → AllByRecursion (λ l. l < k) ls → valuation_by k ls ≡ valuation_by k ms → ls ≡ ms
letters_once k ls ms long small e = ext_get_or 0 ls ms long (λ r in'. same r in')
  where
    same : (r : ℕ) → r < length ls → get_or ls r 0 ≡ get_or ms r 0
    same r in' =
        let l : get_or ls r 0 < k = All-get_or (λ l. l < k) ls r 0 in' small in
        let one = byte_at k ls r (get_or ls r 0) in' l in
        let two = byte_at k ms r (get_or ls r 0) (omega arith) l in
        let both : get_or (valuation_by k ls) (r * k + get_or ls r 0) 0 ≡ get_or (valuation_by k ms) (r * k + get_or ls r 0) 0 = ap (λ v. get_or v (r * k + get_or ls r 0) 0) e in
        grind (arith, nat_tests)
