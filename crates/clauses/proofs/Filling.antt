-- Writing a buffer piece by piece, each piece to the front of what is left.
use Rattle.std.proofs.Common.{◌≡◌, ℕ, suc, ◌+◌, ◌-◌, ◌<◌, ◌≤◌, List, [], ◌∷◌, ◌++◌, length, take, drop, set, sym, refl, ap, ◌∙◌, ap₂, subst, add-one, arith}
use borrow.Rule.Slice.PartMut.{put_mid}
use Rattle.std.proofs.lemmas.List.{append_assoc, append-nil, drop-drop, drop_at, length-append, length-drop, drop_all, length_push, set_split, take_all, take_at}
use Rattle.clauses.specs.Filling.{Writes}

module _ {X : Type 0} where
  -- nothing is written
  pub writes_none : (was : List X) → Writes [] was was 0
  writes_none was = record { count = refl; buffer = refl }

  -- what was written goes by another name
  pub writes_as : {xs ys was is : List X} {n : ℕ} → Writes xs was is n → xs ≡ ys → Writes ys was is n
  writes_as {xs} {ys} {was} {is} {n} w e = let P : List X → Type 0 = λ l. Writes l was is n in subst P e w

  pub length-written : {xs was is : List X} {n : ℕ} → Writes xs was is n → length xs ≤ length was → length is ≡ length was
  length-written {xs} {was} {is} {n} w h = omega (arith, ap length w.buffer, length-append xs (drop (length xs) was), length-drop (length xs) was)

  -- what is left of the buffer behind a piece
  rest_of : {xs was mid : List X} {n : ℕ} → Writes xs was mid n → take (length mid - n) (drop n mid) ≡ drop (length xs) was
  rest_of {xs} {was} {mid} {n} w =
      take_all (length mid - n) (drop n mid) (omega (arith, length-drop n mid)) ∙ ap (drop n) w.buffer ∙ drop_at xs (drop (length xs) was) n (sym w.count)

  pub room_behind : {xs was mid : List X} {n : ℕ} → Writes xs was mid n → (ys : List X) → length (xs ++ ys) ≤ length was → length ys ≤ length (take (length mid - n) (drop n mid))
  room_behind {xs} {was} {mid} {n} w ys h = omega (arith, ap length (rest_of w), length-drop (length xs) was, length-append xs ys)

  -- one piece behind another
  pub writes_more : {xs ys was mid rest : List X} {n m : ℕ} → Writes xs was mid n → Writes ys (take (length mid - n) (drop n mid)) rest m → Writes (xs ++ ys) was (put_mid n (length mid - n) mid rest) (n + m)
  writes_more {xs} {ys} {was} {mid} {rest} {n} {m} first second =
      let front : take n mid ≡ xs = ap (take n) first.buffer ∙ take_at xs (drop (length xs) was) n (sym first.count) in
      let none : drop (length mid - n) (drop n mid) ≡ [] = drop_all (length mid - n) (drop n mid) (omega (arith, length-drop n mid)) in
      record {
        count = omega (arith, length-append xs ys, first.count, second.count);
        buffer =
            ap₂ (λ a b. a ++ b) front (ap₂ (λ a b. a ++ b) (second.buffer ∙ ap (λ l. ys ++ drop (length ys) l) (rest_of first) ∙ ap (λ l. ys ++ l) (drop-drop (length ys) (length xs) was)) none ∙ append-nil (ys ++ drop (length xs + length ys) was))
            ∙ sym (append_assoc xs ys (drop (length xs + length ys) was)) ∙ ap (λ n. (xs ++ ys) ++ drop n was) (sym (length-append xs ys));
      }

  -- one element behind a piece
  pub writes_push : {xs was mid : List X} {n : ℕ} → Writes xs was mid n → (x : X) → length xs < length was → Writes (xs ++ (x ∷ [])) was (set mid n x) (n + 1)
  writes_push {xs} {was} {mid} {n} w x h =
      let front : take n mid ≡ xs = ap (take n) w.buffer ∙ take_at xs (drop (length xs) was) n (sym w.count) in
      let behind : drop (suc n) mid ≡ drop (length (xs ++ (x ∷ []))) was =
      ap (λ i. drop i mid) (sym (add-one n)) ∙ sym (drop-drop 1 n mid) ∙ ap (drop 1) (ap (drop n) w.buffer ∙ drop_at xs (drop (length xs) was) n (sym w.count)) ∙ drop-drop 1 (length xs) was
      ∙ ap (λ i. drop i was) (sym (length_push xs x)) in
      record {
        count = omega (arith, length_push xs x, w.count);
        buffer =
            set_split mid n x (omega (arith, length-written w (omega arith), w.count)) ∙ ap₂ (λ a b. a ++ (x ∷ b)) front behind
            ∙ sym (append_assoc xs (x ∷ []) (drop (length (xs ++ (x ∷ []))) was));
      }
