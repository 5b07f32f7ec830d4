-- Removal of objects.
use Rattle.std.specs.Prelude.{◌≡◌, ℕ, not, List, None}
use Rattle.policy.specs.Settings.{Settings}
use Rattle.policy.specs.Caller.{Caller}
use Rattle.live.specs.Graph.{holds}
use Rattle.model.specs.World.{Path, World}
use Rattle.model.specs.Request.{Request}
use Rattle.model.specs.Reply.{freed}
use Rattle.model.specs.Tests.{refusal}
use Rattle.model.specs.Effects.{effect, keeping}
use Rattle.model.specs.Answers.{answer}

-- the world without the objects of these paths
abbrev pub without : World → List Path → World
without w removed = keeping w (λ p. not (holds removed p))

-- No test of a request fails. The request removes these paths, its answer is the paths and the sum of their bytes, and
-- nothing else changes.
pub record Removes (s : Settings) (w : World) (c : Caller) (q : Request) (removed : List Path) (bytes : ℕ)
    : Type 0 where
  pub passes : refusal s w q ≡ None
  pub answers : freed removed bytes ≡ answer s w c q
  pub becomes : without w removed ≡ effect s w q
