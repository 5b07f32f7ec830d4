-- Tests one after another.
use Rattle.std.proofs.Common.{◌≡◌, List, ◌∷◌, None, Option, ap}
use Rattle.model.specs.declared.refusal.Refusal.{Refusal}
use Rattle.model.specs.Tests.{first_failing}

-- a test that passes
pub pass : (t : Option Refusal) (ts : List (Option Refusal)) → t ≡ None → first_failing (t ∷ ts) ≡ first_failing ts
pass t ts e = ap (λ x. first_failing (x ∷ ts)) e
