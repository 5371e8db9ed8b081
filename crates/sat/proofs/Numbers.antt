-- A test at every number of a list, along a loop.
use Rattle.std.proofs.Common.{◌≡◌, ℕ, ◌+◌, ◌<◌, Bool, true, ◌&&◌, List, length, get_or, drop, ℤ, pos, ap}
use Rattle.std.proofs.lemmas.List.{at_drop_more}
use Rattle.sat.specs.Formula.{every}

-- one number more passes
pub every_more : (test : ℤ → Bool) (zs : List ℤ) (i : ℕ) → i < length zs → test (get_or zs i (pos 0)) ≡ true →
    every test (drop i zs) ≡ every test zs → every test (drop (i + 1) zs) ≡ every test zs
every_more test zs i h t e =
    let s : every test (drop i zs) ≡ (test (get_or zs i (pos 0)) && every test (drop (i + 1) zs)) = at_drop_more (every test) zs i (pos 0) h in
    let u : (test (get_or zs i (pos 0)) && every test (drop (i + 1) zs)) ≡ every test (drop (i + 1) zs) = ap (λ b. b && every test (drop (i + 1) zs)) t in
    cc
