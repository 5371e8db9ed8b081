-- A test that antt computes at each number below a limit.
use Rattle.std.proofs.Common.{◌≡◌, ℕ, zero, suc, ◌<◌, Bool, true, ◌&&◌, refl}
use Rattle.std.proofs.lemmas.Bool.Decides.{Decides-below_and}

-- the test f passes at each number below n
abbrev pub each : (ℕ → Bool) → ℕ → Bool
each f zero = true
each f (suc n) = f n && each f n

pub each_at : (f : ℕ → Bool) (n k : ℕ) → each f n ≡ true → k < n → f k ≡ true
each_at f n k h p = (Decides-below_and f (λ i. f i ≡ true) (each f) (λ i. (λ e. e, λ e. e)) refl (λ _. refl) n).0 h k p
