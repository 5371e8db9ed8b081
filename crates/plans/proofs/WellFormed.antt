-- The numbers of a board's formula: its literals name the variables 1 to N × k, so it is well formed, and no number passes 1024.
use Rattle.std.proofs.Common.{◌≡◌, ℕ, suc, ◌+◌, ◌*◌, ◌<◌, ◌≤◌, true, not, leb, List, [], ◌∷◌, length, ℤ, pos, nat_abs, Some, None, Option, refl, ap, add-one, arith}
use Rattle.std.proofs.lemmas.Nat.{mul-add-lt, mul-le}
use Rattle.std.proofs.ByRecursion.{All-weaker}
use Rattle.std.proofs.lemmas.Bool.{and_from, and_parts, le-leb, leb-true}
use Rattle.std.specs.List.{AllByRecursion}
use Rattle.sat.specs.Formula.{closed, encode, is_zero, literals, variable, within}
use Rattle.sat.specs.Question.{well_formed}
use Rattle.board.specs.Held.{Held}
use Rattle.board.specs.Laws.{Lawful}
use Rattle.board.specs.declared.net.Net.{Net}
use Rattle.plans.specs.Clauses.{clauses, goes, goes_not}
use Rattle.plans.specs.Nets.{nets_of}
use Rattle.plans.proofs.Encoding.{closed-encode, every-encode}
use Rattle.plans.proofs.Meaning.{every_literal}

-- the literals of rank r and FPIC t name a variable of n × k, and are not 0
pub goes-within : (n k r t : ℕ) → r < n → t < k → leb (variable (goes k r t)) (n * k) ≡ true
goes-within n k r t in' below = le-leb (r * k + t + 1) (n * k) (omega (arith, mul-add-lt r k t n in' below))

pub goes_not-within : (n k r t : ℕ) → r < n → t < k → leb (variable (goes_not k r t)) (n * k) ≡ true
goes_not-within n k r t in' below = le-leb (suc (r * k + t)) (n * k) (omega (arith, mul-add-lt r k t n in' below))

pub goes_literal : (k r t : ℕ) → not (is_zero (goes k r t)) ≡ true
goes_literal k r t = ap (λ n. not (is_zero (pos n))) (add-one (r * k + t))

pub formula_within : (held : Held) → within (length (nets_of held.rows) * held.fpics) (encode (clauses held)) ≡ true
formula_within held =
    let n = length (nets_of held.rows) in
    let k = held.fpics in
    every-encode (λ z. leb (variable z) (n * k)) (le-leb 0 (n * k) (omega arith)) (clauses held)
    (every_literal held (λ z. leb (variable z) (n * k)) (λ r t in' below. (goes-within n k r t in' below, goes_not-within n k r t in' below)))

-- with assumed literals that are well formed the question is
pub question_well_formed : (held : Held) (assumed : List ℤ) → within (length (nets_of held.rows) * held.fpics) assumed ≡ true → literals assumed ≡ true →
    well_formed (length (nets_of held.rows) * held.fpics) (encode (clauses held)) assumed ≡ true
question_well_formed held assumed w l =
    let v = length (nets_of held.rows) * held.fpics in
    and_from (closed (encode (clauses held))) _ (closed-encode (clauses held))
    (and_from (within v (encode (clauses held))) _ (formula_within held) (and_from (within v assumed) (literals assumed) w l))

pub formula_well_formed : (held : Held) → well_formed (length (nets_of held.rows) * held.fpics) (encode (clauses held)) [] ≡ true
formula_well_formed held = question_well_formed held [] refl refl

-- ---- sizes

pub nets_at_most : (rows : List (Option Net)) → length (nets_of rows) ≤ length rows
nets_at_most [] = omega arith
nets_at_most (None ∷ rows) = omega (arith, nets_at_most rows)
nets_at_most (Some net ∷ rows) = omega (arith, nets_at_most rows)

-- a board of 128 rows has at most 1024 variables
pub variables_at_most : (held : Held) → Lawful held → length held.rows ≤ 128 → length (nets_of held.rows) * held.fpics ≤ 1024
variables_at_most held lawful long = omega (arith, mul-le (length (nets_of held.rows)) held.fpics 128 8 (omega (arith, nets_at_most held.rows)) lawful.fpics.1)

within_all : (v : ℕ) (zs : List ℤ) → within v zs ≡ true → AllByRecursion (λ z. nat_abs z ≤ v) zs
within_all v [] h = tt
within_all v (z ∷ zs) h = let parts = and_parts (leb (variable z) v) (within v zs) h in (leb-true (nat_abs z) v parts.0, within_all v zs parts.1)

pub numbers_at_most : (held : Held) → Lawful held → length held.rows ≤ 128 → AllByRecursion (λ z. nat_abs z ≤ 1024) (encode (clauses held))
numbers_at_most held lawful long =
    let v = length (nets_of held.rows) * held.fpics in
    let few = variables_at_most held lawful long in
    All-weaker (λ z. nat_abs z ≤ v) (λ z. nat_abs z ≤ 1024) (λ z l. omega arith) (encode (clauses held)) (within_all v (encode (clauses held)) (formula_within held))
