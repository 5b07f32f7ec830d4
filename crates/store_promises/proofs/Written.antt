-- A request that is met by one write of the tables.
use Rattle.std.proofs.Common.{◌≡◌, ℕ, None, Result, Ok, Err, refl, sym, subst, inl}
use Rattle.sqlite_trees.specs.declared.store.Store.{Ghosts}
use Rattle.sqlite.specs.State.{Survives}
use Rattle.sqlite.specs.Held.{state}
use Rattle.tables_sql.specs.declared.failure.Failed.{Failed}
use Rattle.policy.specs.Settings.{Settings}
use Rattle.policy.specs.Caller.{Caller}
use Rattle.model.specs.World.{World}
use Rattle.model.specs.Sound.{IsSound}
use Rattle.tables_outline.specs.Outline.{OutlineValue, outline_of}
use Rattle.model.specs.Request.{Request}
use Rattle.model.specs.Tests.{refusal}
use Rattle.model.specs.Effects.{effect}
use Rattle.model.specs.Answers.{answer}
use Rattle.tables_writes.specs.Writes.{CommitsChange}
use Rattle.tables_writes.specs.TablesValue.{TablesValue, HasWorld, LeavesWorld}
use Rattle.store_types.specs.declared.replies.Answer.{Answer}
use Rattle.store_types.specs.declared.replies.Stop.{Stop}
use Rattle.store_types.specs.View.{answer_view}
use Rattle.store_types.specs.Tested.{Stops}
use Rattle.store_promises.specs.Causes.{HasCause}
use Rattle.store_promises.specs.Answers.{answered}
use Rattle.store_promises.specs.Crashes.{LeavesPassed}
use Rattle.store_promises.specs.Meets.{IsMet, reply_to}
use Rattle.store_promises.proofs.Untouched.{met_by_reading, others_shown, reads_stopped, survives_as}

module _ {S : Type 0} (g : Ghosts S) (k : TablesValue S) where
  -- a world that is sound by one name is so by another
  pub sound_as : (F G : World → World) → ((w : World) → HasWorld g k w → F w ≡ G w)
      → ((w : World) → HasWorld g k w → IsSound k.dir (G w)) → (w : World) → HasWorld g k w → IsSound k.dir (F w)
  sound_as F G same h w t = subst (λ (v : World). IsSound k.dir v) (sym (same w t)) (h w t)

module _ {S : Type 0} (g : Ghosts S) (s : Settings) (c : Caller) (q : Request) (k : TablesValue S) where
  -- a test fails, or the call
  pub met_by_stopping : (stop : Stop) (o : OutlineValue) → o ≡ k.outline
      → ((w : World) → outline_of w ≡ o → Stops stop (refusal s w q)) → IsMet g s c q (Err stop) k k
  met_by_stopping stop o same h = met_by_reading g s c q (Err stop) k o same (reads_stopped s c o q stop h)

  module _ (new : TablesValue S) (F : World → World) (a : Answer)
      (passes : (w : World) → outline_of w ≡ k.outline → refusal s w q ≡ None)
      (answers : (w : World) → outline_of w ≡ k.outline → answer_view a ≡ answer s w c q)
      (becomes : (w : World) → outline_of w ≡ k.outline → F w ≡ effect s w q)
    where
      left_so : ((w : World) → HasWorld g k w
          → Survives (state g k.connection) (state g new.connection)
          (λ db. LeavesWorld k.dir (state g k.connection).now db (F w)))
          → (w : World) → HasWorld g k w
          → Survives (state g k.connection) (state g new.connection)
          (λ db. LeavesPassed k.dir (state g k.connection).now db s w q)
      left_so left w t =
          survives_as (state g k.connection) (state g new.connection)
          (λ db. LeavesWorld k.dir (state g k.connection).now db (F w))
          (λ db. LeavesPassed k.dir (state g k.connection).now db s w q)
          (λ db rows. (
            passes w t.outline,
            subst (λ (v : World). LeavesWorld k.dir (state g k.connection).now db v) (becomes w t.outline) rows,
          ))
          (left w t)

      -- the write makes of each world what the request does
      pub met_by_writing : (r : Result (Unit {0}) Failed) → CommitsChange g k new r F
          → HasCause g q (reply_to (answered r a)) k new → IsMet g s c q (answered r a) k new
      met_by_writing (Ok u) frame cause = record {
        dir = frame.dir;
        world =
            λ w t. (
              effect s w q,
              (passes w t.outline, λ _. answers w t.outline, refl),
              subst (λ (v : World). HasWorld g new v) (becomes w t.outline) (frame.done w t),
            );
        cause = λ w t. cause;
        others = λ clean is_open. ((frame.was_open clean).0, frame.others clean);
        still = λ h. absurd h;
        stays_durable = λ _ clean. let is_open = (frame.was_open clean).1 in inl (is_open, frame.durable is_open);
        survives = left_so frame.survives;
      }
      met_by_writing (Err f) frame cause = record {
        dir = frame.dir;
        world = λ w t. (w, refl, frame.failed w t);
        cause = λ w t. cause;
        others = others_shown g k new frame.shown;
        still = λ h. absurd h;
        stays_durable = λ h. absurd h;
        survives = left_so frame.survives;
      }

-- what a write returns, and one that counts
abbrev pub written : Result (Unit {0}) Failed
written = Ok tt

abbrev pub unwritten : Failed → Result (Unit {0}) Failed
unwritten f = Err f

abbrev pub counted : ℕ → Result ℕ Failed
counted n = Ok n

abbrev pub uncounted : Failed → Result ℕ Failed
uncounted f = Err f

-- a write that counts is a write
module _ {S : Type 0} (g : Ghosts S) (k new : TablesValue S) (F : World → World) where
  pub counted_done : (n : ℕ) → CommitsChange g k new (counted n) F → CommitsChange g k new written F
  counted_done n frame = record {
    dir = frame.dir;
    done = frame.done;
    others = frame.others;
    failed = tt;
    shown = λ _. tt;
    durable = frame.durable;
    was_open = frame.was_open;
    survives = frame.survives;
  }

  pub counted_failed : (f : Failed) → CommitsChange g k new (uncounted f) F → CommitsChange g k new (unwritten f) F
  counted_failed f frame = record {
    dir = frame.dir;
    done = tt;
    others = λ _. tt;
    failed = frame.failed;
    shown = frame.shown;
    durable = tt;
    was_open = λ _. tt;
    survives = frame.survives;
  }
