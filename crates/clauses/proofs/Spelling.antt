-- Numbers in decimal digits, digit by digit, and signed ones.
use Rattle.std.proofs.Common.{◌≡◌, ℕ, ◌+◌, true, false, cond, not, List, [], ◌∷◌, ◌++◌, length, ℤ, pos, codes, decimal, sym, refl, ap, ◌∙◌, ap₂, arith}
use Rattle.std.proofs.lemmas.Fmt.{decimal_digit}
use Rattle.std.proofs.lemmas.List.{append_assoc, length-append, length_push}
use Rattle.std.proofs.lemmas.List.Concat.{flat_map-append}
use Rattle.std.proofs.lemmas.Bool.{and_parts, not-true}
use Rattle.std.specs.List.{flat_map, AllByRecursion}
use Rattle.std.specs.Fmt.{signed_decimal}
use Rattle.sat.specs.Formula.{encode, is_zero, literals}
use Rattle.clauses.specs.Text.{head_of, line_feed, line_of, printed, spelled}

-- a literal has its space behind it, a number of a formula what its place asks for
pub length-spelled : (z : ℤ) → length (spelled z) ≡ length (signed_decimal z) + 1
unfolding spelled
length-spelled z = length_push (signed_decimal z) 32

pub printed_is : (z : ℤ) → printed z ≡ signed_decimal z ++ (cond (is_zero z) 10 32 ∷ [])
unfolding printed
printed_is z = elim (is_zero z) as (λ b. signed_decimal z ++ cond b line_feed (codes " ") ≡ signed_decimal z ++ (cond b 10 32 ∷ [])) [ true ↦ refl | false ↦ refl ]

pub length-printed : (z : ℤ) → length (printed z) ≡ length (signed_decimal z) + 1
length-printed z = ap length (printed_is z) ∙ length_push (signed_decimal z) (cond (is_zero z) 10 32)

-- the first line
pub length_head : (variables clauses : ℕ) → length (head_of variables clauses) ≡ 6 + length (decimal variables) + 1 + length (decimal clauses) + 1
unfolding head_of
length_head variables clauses =
    omega (
      arith,
      length-append (codes "p cnf ") (decimal variables ++ (codes " " ++ (decimal clauses ++ line_feed))),
      length-append (decimal variables) (codes " " ++ (decimal clauses ++ line_feed)),
      length-append (decimal clauses) line_feed,
    )

pub head_fields : (variables clauses : ℕ) → head_of variables clauses ≡ ((codes "p cnf " ++ decimal variables) ++ (codes " " ++ decimal clauses)) ++ line_feed
unfolding head_of
head_fields variables clauses = simp append_assoc

-- ---- the lines of clauses

printed_literal : (z : ℤ) → is_zero z ≡ false → printed z ≡ spelled z
unfolding printed spelled
printed_literal z e = ap (λ b. signed_decimal z ++ cond b line_feed (codes " ")) e

printed_end : printed (pos 0) ≡ codes "0" ++ line_feed
unfolding printed
printed_end = ap (λ l. l ++ line_feed) (decimal_digit 0 (omega arith))

printed_clause : (clause : List ℤ) → literals clause ≡ true → flat_map printed clause ≡ flat_map spelled clause
printed_clause [] h = refl
printed_clause (z ∷ clause) h =
    let parts = and_parts (not (is_zero z)) (literals clause) h in
    ap₂ (λ a b. a ++ b) (printed_literal z (not-true (is_zero z) parts.0)) (printed_clause clause parts.1)

-- a formula whose clauses hold no 0 is printed line by line
pub printed-encode : (clauses : List (List ℤ)) → AllByRecursion (λ clause. literals clause ≡ true) clauses → flat_map printed (encode clauses) ≡ flat_map line_of clauses
unfolding line_of
printed-encode [] h = refl
printed-encode (clause ∷ clauses) h =
    flat_map-append printed clause (pos 0 ∷ encode clauses)
    ∙ ap₂ (λ a b. a ++ b) (printed_clause clause h.0) (ap₂ (λ a b. a ++ b) printed_end (printed-encode clauses h.1))
    ∙ sym (append_assoc (flat_map spelled clause) (codes "0" ++ line_feed) (flat_map line_of clauses))
