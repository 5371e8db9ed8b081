-- Values written as bytes.
use Rattle.std.proofs.Common.{◌≡◌, ℕ, ◌+◌, ◌<◌, List, length, get_or, take, drop, sym, ap, ◌∙◌, arith}
use Rattle.std.proofs.lemmas.Grind.{common_steps, same_number_lists}
use Rattle.std.proofs.lemmas.List.{get_or-map, get_or-take, get_or-drop}
use Rattle.scan.specs.Values.{by_value, read_off}
use Rattle.scan.specs.declared.value.Value.{Value}
use Rattle.scan.specs.declared.value.Value.TheVariants.{Open}

module _ (values : List Value) (bytes : List ℕ) (room : length bytes < length values) where
  off_length : length (take (length bytes) (drop 1 values)) ≡ length bytes
  off_length = grind (arith, common_steps)

  off_at : (k : ℕ) → k < length bytes → get_or (read_off (length bytes) values) k 0 ≡ by_value (get_or values (k + 1) Open) 0 1 0
  off_at k h =
      get_or-map (λ v. by_value v 0 1 0) (take (length bytes) (drop 1 values)) k Open 0 (omega (arith, off_length))
      ∙ ap (λ v. by_value v 0 1 0) (get_or-take (length bytes) (drop 1 values) k Open h ∙ get_or-drop 1 values k Open ∙ ap (λ n. get_or values n Open) (omega arith))

  -- bytes that are those of the variables in turn
  pub read_off_all : ((k : ℕ) → k < length bytes → get_or bytes k 0 ≡ by_value (get_or values (k + 1) Open) 0 1 0) → bytes ≡ read_off (length bytes) values
  read_off_all h = same_number_lists bytes (read_off (length bytes) values) (grind (arith, common_steps)) (λ k l. h k l ∙ sym (off_at k l))
