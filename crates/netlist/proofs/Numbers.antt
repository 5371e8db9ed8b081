-- Numbers of one to three digits: one more digit, and where a number ends.
use Rattle.std.proofs.Common.{◌≡◌, ℕ, ◌+◌, ◌-◌, ◌*◌, ◌/◌, ◌%◌, ◌<◌, ◌≤◌, true, false, cond, leb, ◌⊎◌, List, [], ◌∷◌, ◌++◌, length, get_or, Some, None, Option, decimal, sym, refl, ap, ◌∙◌, subst, ⊎_elim, append_assoc, append-nil, arith, length-append}
use Rattle.std.specs.List.{take_while}
use Rattle.std.specs.Str.Parse.{digits_value}
use Rattle.std.specs.Char.{is_ascii_digit}
use Rattle.std.specs.Str.{all_ascii_digits}
use Rattle.std.proofs.lemmas.Fmt.{decimal_digit, decimal_step, decimal_nonempty, digits_decimal, first_decimal, length-decimal-le, decimal_injective}
use Rattle.std.proofs.lemmas.List.{length_push, append_cancel_left}
use Rattle.std.proofs.lemmas.List.Sums.{take_while-cons}
use Rattle.std.proofs.lemmas.Str.Parse.{IsNumeralModel, numerals_by_value, tells_all_ascii_digits}
use Rattle.std.proofs.lemmas.Bool.{and_parts, and_from, false≢true, le-leb, leb-true, cases_lt, cases_Bool}
use Rattle.netlist.specs.Place.{rest, Finds, Takes}
use Rattle.netlist.specs.Pieces.{digit, number, digit_first}
use Rattle.netlist.specs.declared.reader.Reader.{Reader}

own : IsNumeralModel (λ ds. all_ascii_digits ds ≡ true) (digits_value 10)
own = numerals_by_value (λ ds. all_ascii_digits ds ≡ true) tells_all_ascii_digits

-- a digit in front of a text
pub digit_is_first : (d : ℕ) (bs : List ℕ) → d < 10 → digit_first ((48 + d) ∷ bs) ≡ true
digit_is_first d bs h = and_from (leb 48 (48 + d)) (leb (48 + d) 57) (le-leb 48 (48 + d) (omega arith)) (le-leb (48 + d) 57 (omega arith))

-- where no digit stands
pub no_digit_first : (bs : List ℕ) → ((d : ℕ) (behind : List ℕ) → d < 10 → bs ≡ (48 + d) ∷ behind → ⊥) → digit_first bs ≡ false
no_digit_first [] none = refl
no_digit_first (b ∷ bs) none =
    ⊎_elim
    (λ t.
    let p = and_parts (leb 48 b) (leb b 57) t in
    let l = leb-true 48 b p.0 in
    let h = leb-true b 57 p.1 in
    let e : b ≡ 48 + (b - 48) = omega arith in
    absurd (none (b - 48) bs (omega arith) (ap (λ x. x ∷ bs) e)))
    (λ f. f)
    (cases_Bool (is_ascii_digit b))

-- a number grows by a digit
pub decimal_more : (v d : ℕ) → 0 < v → v < 100 → d < 10 → decimal (10 * v + d) ≡ decimal v ++ (48 + d) ∷ []
decimal_more v d l h k =
    let q : (10 * v + d) / 10 ≡ v = omega arith in
    let r : (10 * v + d) % 10 ≡ d = omega arith in
    let s = decimal_step (10 * v + d) (omega arith) (omega arith) in
    s ∙ ap (λ n. decimal n ++ (48 + (10 * v + d) % 10) ∷ []) q ∙ ap (λ n. decimal v ++ (48 + n) ∷ []) r

-- the digits that a text begins with
abbrev front : List ℕ → List ℕ
front = take_while is_ascii_digit

front_none : (bs : List ℕ) → digit_first bs ≡ false → front bs ≡ []
front_none [] e = refl
front_none (b ∷ bs) e = take_while-cons is_ascii_digit b bs ∙ ap (λ t. cond t (b ∷ front bs) []) e

front_some : (bs : List ℕ) → digit_first bs ≡ true → 0 < length (front bs)
front_some [] e = absurd (false≢true e)
front_some (b ∷ bs) e = omega (arith, ap length (take_while-cons is_ascii_digit b bs ∙ ap (λ t. cond t (b ∷ front bs) []) e))

front-append : (ds bs : List ℕ) → all_ascii_digits ds ≡ true → front (ds ++ bs) ≡ ds ++ front bs
front-append [] bs a = refl
front-append (d ∷ ds) bs a =
    let p = and_parts (is_ascii_digit d) (all_ascii_digits ds) a in
    take_while-cons is_ascii_digit d (ds ++ bs) ∙ ap (λ t. cond t (d ∷ front (ds ++ bs)) []) p.0 ∙ ap (λ r. d ∷ r) (front-append ds bs p.1)

module _ (n : ℕ) (small : n < 1000) (bs : List ℕ) where
  -- a text that begins with a number begins with its digits, and with no more where no digit follows
  digits : front (decimal n ++ bs) ≡ decimal n ++ front bs
  digits = front-append (decimal n) bs (digits_decimal own n (omega arith))

  no_more : digit_first bs ≡ false → front (decimal n ++ bs) ≡ decimal n
  no_more e = digits ∙ ap (λ r. decimal n ++ r) (front_none bs e) ∙ append-nil (decimal n)

-- so a number and what stands behind it are given by the text
pub number_same : (n m : ℕ) (x y : List ℕ) → n < 1000 → m < 1000 → digit_first x ≡ false → digit_first y ≡ false → decimal n ++ x ≡ decimal m ++ y → (n ≡ m) × (x ≡ y)
number_same n m x y k h f g e =
    let same = decimal_injective n m (omega arith) (omega arith) (sym (no_more n k x f) ∙ ap front e ∙ no_more m h y g) in
    (same, append_cancel_left (decimal n) x y (e ∙ ap (λ i. decimal i ++ y) (sym same)))

-- no number begins with 0 or three digits and then a digit more
no_number : (v n : ℕ) (x y : List ℕ) → v < 1000 → (v ≡ 0) ⊎ ((v ≡ 0 → ⊥) × (100 ≤ v)) → n < 1000 → digit_first x ≡ true → digit_first y ≡ false → decimal v ++ x ≡ decimal n ++ y → ⊥
no_number v n x y s w h f g e =
    let more : decimal v ++ front x ≡ decimal n = sym (digits v s x) ∙ ap front e ∙ no_more n h y g in
    let l : length (decimal n) ≡ length (decimal v) + length (front x) = ap length (sym more) ∙ length-append (decimal v) (front x) in
    let some = front_some x f in
    ⊎_elim (λ z. zero (ap decimal z ∙ decimal_digit 0 (omega arith)) more l some) (λ z. omega (arith, l, some, length-decimal-le 3 n (omega arith) (omega arith) (omega arith), long z.1)) w
  where
    zero : decimal v ≡ 48 ∷ [] → decimal v ++ front x ≡ decimal n → length (decimal n) ≡ length (decimal v) + length (front x) → 0 < length (front x) → ⊥
    zero q more l some =
        let one : length (decimal v) ≡ 1 = ap length q in
        let head : get_or (decimal n) 0 0 ≡ 48 = ap (λ ds. get_or ds 0 0) (sym more ∙ ap (λ ds. ds ++ front x) q) in
        ⊎_elim
        (λ p. omega (arith, head, first_decimal n p (omega arith)))
        (λ p. let none : n ≡ 0 = omega arith in omega (arith, l, one, some, ap length (ap decimal none ∙ decimal_digit 0 (omega arith))))
        (cases_lt 0 n)

    long : 100 ≤ v → 3 ≤ length (decimal v)
    long k =
        let a = ap length (decimal_step v (omega arith) (omega arith)) in
        let b = ap length (decimal_step (v / 10) (omega arith) (omega arith)) in
        omega (arith, a ∙ length_push (decimal (v / 10)) (48 + v % 10), b ∙ length_push (decimal (v / 10 / 10)) (48 + v / 10 % 10), decimal_nonempty (v / 10 / 10) (omega arith))

-- a reader has come from a place to another over the digits of a number
pub record Over (start : Reader) (v : ℕ) (here : Reader) : Type 0 where
  pub small : v < 1000
  pub read : rest start ≡ decimal v ++ rest here
  pub line : here.line ≡ start.line

module _ {start next : Reader} where
  pub over_first : {d : ℕ} → Takes digit start (Some d) next → Over start d next
  over_first {d} t =
      let f = t.finds.found in
      record { small = omega (arith, f.0); read = f.1 ∙ ap (λ ds. ds ++ rest next) (sym (decimal_digit d f.0)); line = t.finds.line }

  pub no_digit_found : {r : Option ℕ} → r ≡ None → Takes digit start None next → Finds number start r next
  no_digit_found e t = subst (λ r. Finds number start r next) (sym e) (record {
    found = λ n behind fits p.
        let none = sym (digits n fits.0 behind) ∙ ap front (sym p) ∙ front_none (rest start) (no_digit_first (rest start) t.finds.found) in
        omega (arith, decimal_nonempty n (omega arith), ap length none, length-append (decimal n) (front behind));
    line = t.finds.line;
  })

module _ {start here next : Reader} {v : ℕ} (over : Over start v here) where
  pub over_more : {d : ℕ} → Takes digit here (Some d) next → 0 < v → v < 100 → Over start (10 * v + d) next
  over_more {d} t l h =
      let f = t.finds.found in
      record {
        small = omega (arith, f.0);
        read = over.read ∙ ap (λ bs. decimal v ++ bs) f.1 ∙ sym (append_assoc (decimal v) ((48 + d) ∷ []) (rest next)) ∙ ap (λ ds. ds ++ rest next) (sym (decimal_more v d l h f.0));
        line = t.finds.line ∙ over.line;
      }

  pub over_all : Takes digit here None next → Finds number start (Some v) next
  over_all t =
      let same = t.stays refl in
      record {
        found = ((over.small, ap digit_first same ∙ no_digit_first (rest here) t.finds.found), over.read ∙ ap (λ bs. decimal v ++ bs) (sym same));
        line = t.finds.line ∙ over.line;
      }

  pub over_none : {d : ℕ} → Takes digit here (Some d) next → (v ≡ 0) ⊎ ((v ≡ 0 → ⊥) × (100 ≤ v)) → Finds number start None next
  over_none {d} t w =
      let f = t.finds.found in
      record {
        found = λ n behind fits e.
            no_number v n (rest here) behind over.small w fits.0 (ap digit_first f.1 ∙ digit_is_first d (rest next) f.0) fits.1 (sym over.read ∙ e);
        line = t.finds.line ∙ over.line;
      }
