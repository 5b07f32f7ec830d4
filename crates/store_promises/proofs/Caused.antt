-- Why requests fail.
use Rattle.std.proofs.Common.{◌≡◌, ◌⊎◌, Result, Ok, Err, IsTrue, inl, inr, arith}
use Rattle.std.specs.Prelude.{IsSome}
use Rattle.sqlite_value.specs.Order.{Row}
use Rattle.sqlite_schema.specs.declared.schema.Table.{Table}
use Rattle.sqlite_trees.specs.declared.store.Store.{Ghosts}
use Rattle.sqlite.specs.State.{State}
use Rattle.sqlite.specs.Held.{state}
use Rattle.tables_sql.specs.Failures.{HasDiskCause}
use Rattle.tables_sql.proofs.Rowids.{fuller}
use Rattle.tables_sql.specs.declared.failure.Failed.{Failed}
use Rattle.tables_sql.specs.declared.failure.Failed.TheVariants.{Memory, Size, Disk}
use Rattle.policy.specs.Settings.{Settings}
use Rattle.policy.specs.Caller.{Caller}
use Rattle.model.specs.Disk.{puts_rows, touches_disk}
use Rattle.model.specs.World.{World}
use Rattle.model.specs.Request.{Request}
use Rattle.model.specs.Reply.{disk}
use Rattle.tables_writes.specs.Reasons.{Rows, AreAmong, NoRow, RunsOutOfRowids}
use Rattle.tables_writes.specs.Writes.{FailsToAsk, FailsToChange}
use Rattle.tables_writes.specs.TablesValue.{TablesValue}
use Rattle.store_types.specs.Meets.{Meets}
use Rattle.store_types.specs.declared.replies.Answer.{Answer}
use Rattle.store_types.specs.declared.replies.Stop.{Stop}
use Rattle.store_types.specs.declared.replies.Stop.TheVariants.{Refused, Failed as failed}
use Rattle.store_promises.specs.Causes.{HasCause, IsDiskReason}
use Rattle.store_promises.specs.RowsPut.{rows_put}
use Rattle.store_promises.specs.Meets.{reply_to}
use Rattle.store_promises.specs.Answers.{answered}

module _ {S : Type 0} (g : Ghosts S) (q : Request) (old new : TablesValue S) where
  -- what is done without the disk runs out of memory, if it fails
  pub memory_only : (s : Settings) (w : World) (c : Caller) (r : Result Answer Stop) (next : World)
      → Meets s w c q r next → HasCause g q (reply_to r) old new
  memory_only s w c (Ok a) next m = tt
  memory_only s w c (Err (Refused r)) next m = tt
  memory_only s w c (Err (failed Memory)) next m = tt
  memory_only s w c (Err (failed Size)) next m = let is : Size ≡ Memory = m.0 in let no : ⊥ = cc in absurd no
  memory_only s w c (Err (failed Disk)) next m = let is : Disk ≡ Memory = m.0 in let no : ⊥ = cc in absurd no

  -- what isn't read of the disk has a reason
  pub read_fails : IsTrue (touches_disk q) → (f : Failed) → FailsToAsk g {T = Unit {0}} old new (Err f)
      → HasCause g q (reply_to (Err (failed f))) old new
  read_fails touches Memory cause = tt
  read_fails touches Size cause = (touches, λ clean. absurd (cause clean))
  read_fails touches Disk cause = (
    touches,
    λ clean. elim (cause clean) [
      | inl fault ↦ inl fault
      | inr more ↦ inr (elim more [ inl limited ↦ inl limited | inr none ↦ absurd none ])
    ],
  )

  module _ (touches : IsTrue (touches_disk q)) (rows : Rows) (among : AreAmong rows (rows_put old.dir old.outline q))
      (puts : (t : Table) (row : Row) → rows.has t row → IsTrue (puts_rows q)) where
    by_disk : (s t : State) → HasDiskCause s t ⊎ (IsSome s.step_limit ⊎ RunsOutOfRowids rows s.now)
        → IsDiskReason q (rows_put old.dir old.outline q) disk s t
    by_disk s t (inl fault) = inl fault
    by_disk s t (inr (inl limited)) = inr (inl limited)
    by_disk s t (inr (inr x)) =
        inr (inr (
          puts x.0 x.1 x.2,
          (
            x.0,
            x.1,
            among.has x.0 x.1 x.2,
            fuller rows.count (rows_put old.dir old.outline q).count s.now x.0 among.count x.3,
          ),
        ))

    -- a change that isn't written has a reason
    pub write_fails : (a : Answer) (r : Result (Unit {0}) Failed) → FailsToChange g old new r rows
        → HasCause g q (reply_to (answered r a)) old new
    write_fails a (Ok u) cause = tt
    write_fails a (Err Memory) cause = tt
    write_fails a (Err Size) cause = (
      touches,
      λ clean. let x = cause clean in let it = x.1 in
          (puts it.2 it.3 it.4, x.0, (it.0, it.1, it.2, it.3, among.has it.2 it.3 it.4, it.5)),
    )
    write_fails a (Err Disk) cause =
        (touches, λ clean. by_disk (state g old.connection) (state g new.connection) (cause clean))

-- ---- rows among others

pub own_among : (rows : Rows) → AreAmong rows rows
own_among rows = record { count = omega arith; has = λ t row h. h }

pub none_among : (rows : Rows) → AreAmong NoRow rows
none_among rows = record { count = omega arith; has = λ t row h. absurd h }
