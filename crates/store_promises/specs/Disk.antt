-- Answers that come from the disk, and steps over a disk that may return wrong bytes.
use Rattle.std.specs.Prelude.{◌≡◌, List, [], ◌∷◌, IsTrue}
use Rattle.model.specs.World.{World}
use Rattle.policy.specs.Settings.{Settings}
use Rattle.policy.specs.Caller.{Caller}
use Rattle.model.specs.Disk.{reads_disk}
use Rattle.model.specs.Request.{Request}
use Rattle.model.specs.Reply.{Reply, done}
use Rattle.model.specs.Answers.{answer}
use Rattle.model.specs.Step.{Step}
use Rattle.model.specs.Labels.{LookAlike}

-- A step over a disk. An answer from the disk is the right one if the disk is clean: it has returned so far what was
-- written to it. All else is true over any disk: the rules, the tests, the failures, and what becomes of the world.
abbrev pub StepOver : Type 0 → Settings → World → Caller → Request → Reply → World → Type 0
StepOver is_clean s w c q (done a) next =
    Step s w c q (done (answer s w c q)) next × ((IsTrue (reads_disk q) → is_clean) → a ≡ answer s w c q)
StepOver is_clean s w c q reply next = Step s w c q reply next

-- a run of such steps
abbrev pub RunOver : Type 0 → Settings → World → List (Caller × Request) → List Reply → World → Type 0
RunOver is_clean s w [] [] new = new ≡ w
RunOver is_clean s w (call ∷ calls) (reply ∷ replies) new =
    (mid : World) × StepOver is_clean s w call.0 call.1 reply mid × RunOver is_clean s mid calls replies new
RunOver is_clean s w [] (reply ∷ replies) new = ⊥
RunOver is_clean s w (call ∷ calls) [] new = ⊥

-- the replies of two runs of the same calls look alike; those from the disk do if the disk is clean
abbrev pub LookAlikeOver : Type 0 → Settings → List (Caller × Request) → List Reply → List Reply → Type 0
LookAlikeOver is_clean s [] [] [] = Unit {0}
LookAlikeOver is_clean s (call ∷ calls) (a ∷ replies) (b ∷ others) =
    ((IsTrue (reads_disk call.1) → is_clean) → LookAlike s call.0 a b) × LookAlikeOver is_clean s calls replies others
LookAlikeOver is_clean s _ _ _ = ⊥
