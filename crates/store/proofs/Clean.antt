-- Steps over a clean disk, and of requests that are answered from memory, are steps.
use Rattle.std.proofs.Common.{List, [], ◌∷◌, IsTrue}
use Rattle.std.proofs.lemmas.Bool.{or_left, or_right}
use Rattle.policy.specs.Settings.{Settings}
use Rattle.policy.specs.Caller.{Caller}
use Rattle.model.specs.World.{World}
use Rattle.model.specs.Request.{Request}
use Rattle.model.specs.Reply.{Reply, done, denied, refused, failed}
use Rattle.model.specs.Step.{Step, Run}
use Rattle.model.specs.Disk.{reads_disk}
use Rattle.store_promises.specs.Disk.{StepOver, RunOver}
use Rattle.store.specs.Laws.{read_disk}

pub step_clean : (is_clean : Type 0) (s : Settings) (w : World) (c : Caller) (q : Request) (reply : Reply)
    (next : World) → (IsTrue (reads_disk q) → is_clean)
    → StepOver is_clean s w c q reply next → Step s w c q reply next
step_clean is_clean s w c q (done a) next clean h = (h.0.0, h.0.1, h.1 clean, h.0.3)
step_clean is_clean s w c q (denied rule root) next clean h = h
step_clean is_clean s w c q (refused r) next clean h = h
step_clean is_clean s w c q (failed f) next clean h = h

-- of a run whose answers are from the disk only where that is clean
pub run_read : (is_clean : Type 0) (s : Settings) (w : World) (calls : List (Caller × Request)) (replies : List Reply)
    (next : World) → (IsTrue (read_disk calls) → is_clean)
    → RunOver is_clean s w calls replies next → Run s w calls replies next
run_read is_clean s w [] [] next clean h = h
run_read is_clean s w (call ∷ calls) (reply ∷ replies) next clean h = (
  h.0,
  step_clean is_clean s w call.0 call.1 reply h.0 (λ r. clean (or_left (reads_disk call.1) (read_disk calls) r)) h.1,
  run_read is_clean s h.0 calls replies next (λ r. clean (or_right (reads_disk call.1) (read_disk calls) r)) h.2,
)
run_read is_clean s w [] (reply ∷ replies) next clean h = h
run_read is_clean s w (call ∷ calls) [] next clean h = h

pub run_clean : (is_clean : Type 0) (s : Settings) (w : World) (calls : List (Caller × Request)) (replies : List Reply)
    (next : World) → is_clean
    → RunOver is_clean s w calls replies next → Run s w calls replies next
run_clean is_clean s w calls replies next clean h = run_read is_clean s w calls replies next (λ _. clean) h
