-- Runtime labels don't show to a caller that isn't trusted.
use Rattle.std.specs.Prelude.{◌≡◌, ℕ, List, [], ◌∷◌, IsTrue, IsFalse}
use Rattle.std.specs.FinMap as finite
use Rattle.paths.specs.Root.{Set}
use Rattle.model.specs.World.{World, pair_cmp}
use Rattle.policy.specs.Settings.{Settings}
use Rattle.policy.specs.Caller.{Caller}
use Rattle.policy.specs.Class.{class_of}
use Rattle.policy.specs.Rules.{is_trusted}
use Rattle.model.specs.Request.{Request}
use Rattle.model.specs.Reply.{Reply, failed}
use Rattle.model.specs.Step.{Step, Run}

-- each target of the one set of runtime roots is a target of the other
abbrev pub TargetsAreIn : Set pair_cmp → Set pair_cmp → Type 0
TargetsAreIn r1 r2 =
    (label target : List ℕ) → IsTrue (finite.contains_key r1 (label, target))
    → (other : List ℕ) × IsTrue (finite.contains_key r2 (other, target))

-- two worlds that differ in runtime labels alone, with the same runtime targets
pub record DifferInLabels (w v : World) : Type 0 where
  pub objects : w.objects ≡ v.objects
  pub permanent : w.permanent ≡ v.permanent
  pub user_roots : w.user_roots ≡ v.user_roots
  pub profiles : w.profiles ≡ v.profiles
  pub temporary : w.temporary ≡ v.temporary
  pub present : TargetsAreIn w.runtime v.runtime
  pub back : TargetsAreIn v.runtime w.runtime

-- both replies are the same failure, or neither is one
abbrev pub FailAlike : Reply → Reply → Type 0
FailAlike (failed f) (failed g) = f ≡ g
FailAlike (failed f) _ = ⊥
FailAlike _ (failed g) = ⊥
FailAlike _ _ = Unit {0}

-- equal replies to a caller that isn't trusted, and failures alike to all
pub record LookAlike (s : Settings) (c : Caller) (a b : Reply) : Type 0 where
  pub same : IsFalse (is_trusted (class_of s c)) → a ≡ b
  pub failures : FailAlike a b

-- Whatever a step does in the one world, some step of the other looks alike, and the worlds after them differ in labels
-- alone.
abbrev pub MirrorsSteps : Type 0
MirrorsSteps = (s : Settings) (w v : World) → DifferInLabels w v
    → (c : Caller) (q : Request) (reply : Reply) (new : World) → Step s w c q reply new
    → (other : Reply) × (next : World) × Step s v c q other next × LookAlike s c reply other × DifferInLabels new next

abbrev pub AllLookAlike : Settings → List (Caller × Request) → List Reply → List Reply → Type 0
AllLookAlike s [] [] [] = Unit {0}
AllLookAlike s (call ∷ calls) (a ∷ more) (b ∷ others) = LookAlike s call.0 a b × AllLookAlike s calls more others
AllLookAlike s _ _ _ = ⊥

-- runs from worlds that differ in runtime labels alone
abbrev pub MirrorsRuns : Type 0
MirrorsRuns =
    (s : Settings) (w v new : World) (calls : List (Caller × Request)) (replies : List Reply) → DifferInLabels w v
    → Run s w calls replies new
    → (others : List Reply) × (next : World) × Run s v calls others next × AllLookAlike s calls replies others
    × DifferInLabels new next

abbrev pub AllFailAlike : List Reply → List Reply → Type 0
AllFailAlike [] [] = Unit {0}
AllFailAlike (a ∷ more) (b ∷ others) = FailAlike a b × AllFailAlike more others
AllFailAlike _ _ = ⊥

-- Any two runs over the same calls, from worlds that differ in runtime labels alone and with the same failures at the
-- same places, look alike, and the worlds after them differ in labels alone.
pub record RunsAreAlike (s : Settings) (calls : List (Caller × Request)) (replies others : List Reply)
    (new next : World) : Type 0 where
  pub look : AllLookAlike s calls replies others
  pub worlds : DifferInLabels new next

abbrev pub RunsLookAlike : Type 0
RunsLookAlike =
    (s : Settings) (w v new next : World) (calls : List (Caller × Request)) (replies others : List Reply)
    → DifferInLabels w v
    → Run s w calls replies new → Run s v calls others next → AllFailAlike replies others
    → RunsAreAlike s calls replies others new next
