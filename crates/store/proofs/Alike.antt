-- Runs over a disk from worlds that differ in runtime labels alone.
use Rattle.std.proofs.Common.{List, [], ◌∷◌, sym, subst, IsTrue}
use Rattle.policy.specs.Settings.{Settings}
use Rattle.policy.specs.Caller.{Caller}
use Rattle.model.specs.World.{World}
use Rattle.model.specs.Request.{Request}
use Rattle.model.specs.Reply.{Answer, Reply, done, denied, refused, failed}
use Rattle.model.specs.Answers.{answer}
use Rattle.model.specs.Step.{Step, Run}
use Rattle.model.specs.Labels.{DifferInLabels, FailAlike, LookAlike, AllFailAlike}
use Rattle.model.proofs.MirrorRuns.{steps_look_alike}
use Rattle.model.specs.Disk.{reads_disk}
use Rattle.store_promises.specs.Disk.{StepOver, RunOver, LookAlikeOver}

module _ (is_clean : Type 0) (s : Settings) where
  -- a step over the disk, and a step
  step_alike : (w v new next : World) (c : Caller) (q : Request) (a b : Reply) → DifferInLabels w v
      → StepOver is_clean s w c q a new → Step s v c q b next → FailAlike a b
      → ((IsTrue (reads_disk q) → is_clean) → LookAlike s c a b) × DifferInLabels new next
  step_alike w v new next c q (done a) b d h k e =
      let both = steps_look_alike s w v new next c q (done (answer s w c q)) b d h.0 k e in
      ((λ honest. subst (λ (x : Answer). LookAlike s c (done x) b) (sym (h.1 honest)) both.0), both.1)
  step_alike w v new next c q (denied rule root) b d h k e =
      let both = steps_look_alike s w v new next c q (denied rule root) b d h k e in ((λ _. both.0), both.1)
  step_alike w v new next c q (refused r) b d h k e =
      let both = steps_look_alike s w v new next c q (refused r) b d h k e in ((λ _. both.0), both.1)
  step_alike w v new next c q (failed f) b d h k e =
      let both = steps_look_alike s w v new next c q (failed f) b d h k e in ((λ _. both.0), both.1)

  pub runs_alike : (w v new next : World) (calls : List (Caller × Request)) (replies others : List Reply)
      → DifferInLabels w v
      → RunOver is_clean s w calls replies new → Run s v calls others next → AllFailAlike replies others
      → LookAlikeOver is_clean s calls replies others
  runs_alike w v new next [] [] [] d h k e = tt
  runs_alike w v new next (call ∷ calls) (a ∷ replies) (b ∷ others) d h k e =
      let first = step_alike w v h.0 k.0 call.0 call.1 a b d h.1 k.1 e.0 in
      (first.0, runs_alike h.0 k.0 new next calls replies others first.1 h.2 k.2 e.1)
  runs_alike w v new next [] [] (b ∷ others) d h k e = absurd k
  runs_alike w v new next [] (a ∷ replies) others d h k e = absurd h
  runs_alike w v new next (call ∷ calls) [] others d h k e = absurd h
  runs_alike w v new next (call ∷ calls) (a ∷ replies) [] d h k e = absurd k
