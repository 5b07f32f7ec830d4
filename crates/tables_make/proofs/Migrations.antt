-- A migration in one transaction: what comes of it once it was committed, failed at its commit, or was undone before.
use Rattle.std.proofs.Common.{◌≡◌, List, ℕ, false, true, Result, subst, IsTrue}
use Rattle.std.specs.Prelude.{OnOk, OnErr, IfErr, IsErrAnd}
use Rattle.std.specs.List.{AllByRecursion}
use Rattle.sqlite_trees.specs.declared.store.Store.{Ghosts}
use Rattle.sqlite_trees.specs.Tree.{Trees}
use Rattle.sqlite_schema.specs.declared.schema.Schema.{Schema as Shown}
use Rattle.sqlite.specs.State.{State, HasCleanDisk, IsRolledBack, KeepsCommit, Survives}
use Rattle.sqlite.specs.Held.{Held, state}
use Rattle.sqlite.proofs.StateLemmas.{survives_weaker}
use Rattle.tables_schema.specs.Forms.{names_store_table}
use Rattle.tables_schema.specs.declared.schema.Schema.{Schema}
use Rattle.tables_sql.specs.Contents.{Contents, contents_of}
use Rattle.tables_sql.specs.Calls.{IsCommitted, IsDurable, Leaves}
use Rattle.tables_sql.specs.Failures.{FailsToCommit}
use Rattle.tables_sql.specs.declared.failure.Failed.{Failed}
use Rattle.tables_sql.proofs.Steps.{clean_before}
use Rattle.tables_sql.proofs.TestFailures.{passed_on, survives_both}
use Rattle.tables_sql.proofs.Transactions.{survives_begun}
use Rattle.tables_world.specs.Worlds.{IsSoundBy}
use Rattle.tables_make.specs.NewTables.{placed}
use Rattle.tables_make.specs.Further.{grown}
use Rattle.tables_make.specs.Migrated.{missing_tables, migrated_contents, Grows, IsGrown}
use Rattle.tables_make.specs.Migrating.{FailsToMigrate, FailsToPutBy}
use Rattle.tables_rows.specs.Reasons.{Rows}
use Rattle.tables_make.specs.Commits.{CommitsMigration, MayMigrate, Migrates}
use Rattle.tables_rows.proofs.Failed.{always_done, always_failed, none_done, on_err, shown_undone}
use Rattle.tables_make.proofs.Grown.{grown_as, grown_whole, on_done, survives_whole}
use Rattle.tables_make.proofs.MigratingFailures.{migrating_begun, migrating_commit, migrating_later}
use Rattle.tables_rows.proofs.Reasons.{as_reason}

module _ {S : Type 0} (g : Ghosts S) (conn end : Held S) (from : Schema) (f : Contents → Contents)
    (rows : Contents → Rows) {T : Type 0} (r : Result T Failed) where
  -- a migration that makes this of the contents
  abbrev pub IsMigration : Type 0
  IsMigration =
      CommitsMigration g conn end r from (rows (contents_of (state g conn).now))
      (IsGrown (missing_tables from) (f (contents_of (state g conn).now)))
      (λ left. Leaves (grown (missing_tables from) (state g conn).now) left (f (contents_of (state g conn).now)))

  -- it makes the migrated contents of sound ones
  pub migrates : ((dir : List ℕ) → IsSoundBy from dir (contents_of (state g conn).now)
      → f (contents_of (state g conn).now) ≡ migrated_contents from dir (contents_of (state g conn).now))
      → ((e : Failed) → FailsToPutBy (rows (contents_of (state g conn).now)) from (state g conn) (state g end) e
      → FailsToMigrate from (state g conn) (state g end) e) → IsMigration → Migrates g conn end r from
  migrates same why h =
      let old = state g conn in
      let new = state g end in
      let Left : Trees → Type 0 = λ db. Leaves (grown (missing_tables from) old.now) db (f (contents_of old.now)) in
      record {
        idle = h.idle;
        done =
            λ clean. on_done r _ _ (λ it dir sound. grown_as (missing_tables from) _ _ old new (same dir sound) it)
            (h.done clean);
        failed = h.failed;
        cause = λ clean. as_reason _ _ why r (h.cause clean);
        durable = h.durable;
        survives =
            survives_weaker old new Left _
            (λ clean db l dir sound. subst (λ (x : Contents). Leaves (grown (missing_tables from) old.now) db x)
            (same dir sound) l) h.survives;
      }

  module _ (start : Held S) (b : State) (is : start ≡ record conn { in_transaction = true })
      (may : MayMigrate g conn from) (first : Survives (state g start) b (λ _. ⊥)) where
    -- it was written, and then committed or not
    pub written_migrates : (named : (s : Shown)
        → AllByRecursion (λ t. names_store_table t.name ≡ true) (placed s (missing_tables from)))
        → (HasCleanDisk b → Grows (missing_tables from) (f (contents_of (state g start).now)) (state g start) b)
        → end.in_transaction ≡ false
        → (HasCleanDisk (state g end) → OnOk r (IsCommitted b (state g end)))
        → (HasCleanDisk (state g end) → IfErr r (FailsToCommit b (state g end)))
        → (HasCleanDisk (state g end) → OnErr r (IsRolledBack b (state g end)))
        → (IsTrue (state g end).is_open → IsDurable (state g end))
        → Survives b (state g end) (λ db. Leaves b.now db (contents_of b.now)) → IsMigration
    written_migrates named grew ended done cause failed durable last =
        let new = state g end in
        let late : HasCleanDisk new → HasCleanDisk b =
        clean_before b new (λ db. Leaves b.now db (contents_of b.now)) last in
        record {
          idle = ended;
          done =
              λ clean. on_done r _ _ (grown_whole g conn start (missing_tables from) f b new is (grew (late clean)))
              (done clean);
          failed = λ clean.
              let it = grew (late clean) in
              let kept : KeepsCommit (state g start) b =
              record { was_open = λ up. it.was_open; committed = λ up. it.committed } in
              on_err r _ _ (shown_undone g conn start b new is
              (clean_before (state g start) b (λ _. ⊥) first (late clean)) kept may.ready) (failed clean);
          cause =
              λ clean. as_reason _ _ (λ e h. migrating_begun g conn start rows from new is e
              (migrating_commit (rows (contents_of (state g start).now)) from (state g start) b new _
              (grew (late clean)) first e h)) r (cause clean);
          durable = always_done r _ durable;
          survives = survives_whole g conn start (missing_tables from) named f b new is grew first last;
        }

    -- a write failed, and what was written before it was undone
    pub undone_migrates : (e : Failed) → IsErrAnd r (λ x. x ≡ e) → (HasCleanDisk b → KeepsCommit (state g start) b)
        → (HasCleanDisk b → FailsToPutBy (rows (contents_of (state g start).now)) from (state g start) b e)
        → end.in_transaction ≡ false → (HasCleanDisk (state g end) → IsRolledBack b (state g end))
        → Survives b (state g end) (λ _. ⊥) → IsMigration
    undone_migrates e passed kept cause ended back last =
        let new = state g end in
        let late : HasCleanDisk new → HasCleanDisk b = clean_before b new (λ _. ⊥) last in
        let whole = survives_both (state g start) b new first last in
        record {
          idle = ended;
          done = λ clean. none_done r e _ passed;
          failed =
              λ clean. always_failed r _ (shown_undone g conn start b new is
              (clean_before (state g start) b (λ _. ⊥) first (late clean)) (kept (late clean)) may.ready
              (back clean));
          cause =
              λ clean. passed_on r e _ passed
              (migrating_begun g conn start rows from new is e
              (migrating_later (rows (contents_of (state g start).now)) from (state g start) b new _ last e
              (cause (late clean))));
          durable = none_done r e _ passed;
          survives =
              survives_weaker (state g conn) new (λ _. ⊥) _ (λ clean db no. absurd no)
              (survives_begun g conn new (λ _. ⊥) (subst (λ (x : Held S). Survives (state g x) new (λ _. ⊥)) is whole));
        }
