-- The first that passes, by its place.
use Rattle.std.proofs.Common.{◌≡◌, ◌+◌, ℕ, suc, List, [], ◌∷◌, Bool, true, false, cond, Some, Option, refl, ap, ◌∙◌}
use Rattle.std.proofs.Common.{arith}
use Rattle.std.specs.Prelude.{slice_get, option_and_then, find}
use Rattle.std.specs.List.{position_from}

pub found_from : {X : Type 0} (p : X → Bool) (xs : List X) (n : ℕ) (g : ℕ → Option X)
    → ((k : ℕ) → g (n + k) ≡ slice_get xs k) → option_and_then g (position_from p n xs) ≡ find p xs
found_from p [] n g same = refl
found_from {X} p (x ∷ xs) n g same =
    go (p x) (found_from p xs (n + 1) g (λ k. ap g (let e : n + 1 + k ≡ n + suc k = omega arith in e) ∙ same (suc k)))
  where
    first : g n ≡ Some x
    first = ap g (let e : n ≡ n + 0 = omega arith in e) ∙ same 0

    go : (b : Bool) → option_and_then g (position_from p (n + 1) xs) ≡ find p xs
        → option_and_then g (cond b (Some n) (position_from p (n + 1) xs)) ≡ cond b (Some x) (find p xs)
    go true later = first
    go false later = later

pub found_by_place : {X : Type 0} (p : X → Bool) (xs : List X)
    → option_and_then (slice_get xs) (position_from p 0 xs) ≡ find p xs
found_by_place p xs = found_from p xs 0 (slice_get xs) (λ k. ap (slice_get xs) (let e : 0 + k ≡ k = omega arith in e))
