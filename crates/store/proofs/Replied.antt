-- The step of a call.
use Rattle.std.specs.List.{list_any}
use Rattle.std.proofs.Common.{◌≡◌, true, Some, None, Result, Ok, Err, refl, sym, subst}
use Rattle.sqlite_trees.specs.declared.store.Store.{Ghosts}
use Rattle.sqlite.specs.State.{HasCleanDisk, Survives}
use Rattle.sqlite.specs.Held.{state}
use Rattle.policy.specs.Settings.{Settings}
use Rattle.policy.specs.Caller.{Caller}
use Rattle.policy.specs.declared.kinds.Rule.{Rule}
use Rattle.policy.specs.declared.kinds.Rule.TheVariants.{Live}
use Rattle.policy.specs.Class.{class_of}
use Rattle.policy.specs.Rules.{first_broken}
use Rattle.model.specs.World.{Pair, World}
use Rattle.model.specs.Request.{Request}
use Rattle.model.specs.Liveness.{lives}
use Rattle.model.specs.Reply.{Reply, done, denied, refused, failed, memory, size, disk}
use Rattle.model.specs.Verdict.{operation_of, named_in, shown, verdict}
use Rattle.model.specs.Step.{IsNoneOrLive}
use Rattle.model.specs.Effects.{effect}
use Rattle.tables_writes.specs.TablesValue.{TablesValue, HasWorld}
use Rattle.store_types.specs.declared.replies.Answer.{Answer}
use Rattle.store_types.specs.declared.replies.Stop.{Stop}
use Rattle.store_types.specs.declared.replies.Stop.TheVariants.{Refused, Failed}
use Rattle.model.specs.Reply.{IsDone}
use Rattle.store.specs.View.{IsStill}
use Rattle.store_promises.specs.Causes.{HasCause}
use Rattle.store_promises.specs.Disk.{StepOver}
use Rattle.store.specs.Forbidden.{IsForbidden}
use Rattle.store_promises.specs.Crashes.{LeavesDone, LeavesPassed}
use Rattle.store_promises.specs.Meets.{MeetsOver, IsMet, IsAnswered, IsRefused, reply_to}
use Rattle.store_promises.proofs.Untouched.{survives_as}
use Rattle.store.proofs.Verdicts.{denied_by, denied_live, none_or_live, permitted}

-- where no rule forbids it, what becomes of a request is a step
step_of : (is_clean : Type 0) (s : Settings) (w : World) (c : Caller) (q : Request) (r : Result Answer Stop)
    (next : World) → verdict s w c q ≡ None → MeetsOver is_clean s w c q r next
    → StepOver is_clean s w c q (reply_to r) next
step_of is_clean s w c q (Ok a) next v m = ((v, m.0, refl, m.2), m.1)
step_of is_clean s w c q (Err (Refused r)) next v m = (v, m.0, m.1)
step_of is_clean s w c q (Err (Failed f)) next v m = (subst IsNoneOrLive (sym v) tt, m)

pub refused_of : (r : Result Answer Stop) → IsStill (reply_to r) → IsRefused r
refused_of (Ok a) h = absurd h
refused_of (Err (Refused r)) h = tt
refused_of (Err (Failed f)) h = absurd h

pub answered_of : (r : Result Answer Stop) → IsDone (reply_to r) → IsAnswered r
answered_of (Ok a) h = tt
answered_of (Err (Refused r)) h = absurd h
answered_of (Err (Failed f)) h = absurd h

-- a reply to what is not done is one over any disk
over_disk : (is_clean : Type 0) (s : Settings) (w : World) (c : Caller) (q : Request) (r : Reply)
    → IsForbidden s w c q (Some r) → StepOver is_clean s w c q r w
over_disk is_clean s w c q (done a) f = absurd f
over_disk is_clean s w c q (denied rule root) f = f
over_disk is_clean s w c q (refused r) f = absurd f
over_disk is_clean s w c q (failed x) f = f.1

module _ {S : Type 0} (g : Ghosts S) (s : Settings) (c : Caller) (q : Request) where
  -- a denial
  pub forbidden_by : (rule : Rule) → first_broken (class_of s c) c (operation_of q) ≡ Some rule → (w : World)
      → IsForbidden s w c q (Some (denied rule None))
  forbidden_by rule broken w =
      let d = denied_by s w c q rule broken in
      (d.0, d.1, refl)

  -- a denial for a live path
  pub forbidden_living : (root : Pair) (w : World) → first_broken (class_of s c) c (operation_of q) ≡ None
      → (list_any (lives s w) (named_in q) ≡ true) × (shown s w c q Live ≡ Some root)
      → IsForbidden s w c q (Some (denied Live (Some root)))
  forbidden_living root w allowed living = (denied_live s w c q allowed living.0, sym living.1, refl)

  -- whether a path is live couldn't be found
  pub forbidden_failing : first_broken (class_of s c) c (operation_of q) ≡ None → (w : World)
      → IsForbidden s w c q (Some (failed memory))
  forbidden_failing allowed w = (refl, (none_or_live s w c q allowed, refl))

  -- what is forbidden fails for memory alone
  pub cause_forbidden : (k : TablesValue S) (reply : Reply) (w : World) → IsForbidden s w c q (Some reply)
      → HasCause g q reply k k
  cause_forbidden k (done a) w f = absurd f
  cause_forbidden k (denied rule root) w f = tt
  cause_forbidden k (refused r) w f = tt
  cause_forbidden k (failed memory) w f = tt
  cause_forbidden k (failed size) w f = let is : size ≡ memory = f.0 in let no : ⊥ = cc in absurd no
  cause_forbidden k (failed disk) w f = let is : disk ≡ memory = f.0 in let no : ⊥ = cc in absurd no

  -- what is forbidden is a step
  pub step_forbidden : (reply : Reply) (k : TablesValue S)
      → ((w : World) → HasWorld g k w → IsForbidden s w c q (Some reply)) → (w : World) → HasWorld g k w
      → (next : World) × StepOver (HasCleanDisk (state g k.connection)) s w c q reply next × HasWorld g k next
  step_forbidden reply k forbidden w t =
      (w, over_disk (HasCleanDisk (state g k.connection)) s w c q reply (forbidden w t), t)

  -- what no rule forbids
  pub step_met : (r : Result Answer Stop) (reply : Reply) (old new : TablesValue S)
      → ((w : World) → HasWorld g old w → IsForbidden s w c q None) → reply ≡ reply_to r → IsMet g s c q r old new
      → (w : World) → HasWorld g old w
      → (next : World) × StepOver (HasCleanDisk (state g new.connection)) s w c q reply next × HasWorld g new next
  step_met r reply old new allowed is met w t =
      let a = allowed w t in
      let m = met.world w t in
      let is_clean = HasCleanDisk (state g new.connection) in (
        m.0,
        subst (λ (x : Reply). StepOver is_clean s w c q x m.0) (sym is)
            (step_of is_clean s w c q r m.0 (permitted s w c q a.0 a.1) m.1),
        m.2,
      )

  -- a crash leaves what is done of what no rule forbids
  pub survives_met : (r : Result Answer Stop) (old new : TablesValue S)
      → ((w : World) → HasWorld g old w → IsForbidden s w c q None) → IsMet g s c q r old new
      → (w : World) → HasWorld g old w
      → Survives (state g old.connection) (state g new.connection)
      (λ db. LeavesDone old.dir (state g old.connection).now db s w c q)
  survives_met r old new allowed met w t =
      let a = allowed w t in
      survives_as (state g old.connection) (state g new.connection)
      (λ db. LeavesPassed old.dir (state g old.connection).now db s w q)
      (λ db. LeavesDone old.dir (state g old.connection).now db s w c q)
      (λ db left. record { next = effect s w q; step = (permitted s w c q a.0 a.1, left.0, refl, refl); rows = left.1 })
      (met.survives w t)
