-- Why a migration failed, one step after another.
use Rattle.std.proofs.Common.{◌≡◌, ◌+◌, ◌⊎◌, inl, inr, true, sym, subst, ◌∙◌}
use Rattle.std.proofs.Common.{arith}
use Rattle.std.specs.Prelude.{IsSome}
use Rattle.std.specs.List.{AllByRecursion}
use Rattle.sqlite_schema.specs.declared.schema.Schema.{Schema as Shown}
use Rattle.sqlite_trees.specs.declared.store.Store.{Ghosts}
use Rattle.sqlite_trees.specs.Tree.{Trees}
use Rattle.sqlite.specs.Effect.{Database}
use Rattle.sqlite.specs.State.{State, IsUnchanged, Survives}
use Rattle.sqlite.specs.Held.{Held, state}
use Rattle.tables_schema.specs.Forms.{names_store_table}
use Rattle.tables_schema.specs.declared.schema.Schema.{Schema}
use Rattle.tables_sql.specs.Contents.{Contents, contents_of}
use Rattle.tables_sql.specs.Failures.{HasDiskCause, FailsFor, FailsToCommit}
use Rattle.tables_sql.specs.declared.failure.Failed.{Failed}
use Rattle.tables_sql.specs.declared.failure.Failed.TheVariants.{Memory, Size, Disk}
use Rattle.tables_make.specs.Further.{MakesFurther, grown}
use Rattle.tables_make.specs.NewTables.{IsIndexNameUsed, RunsOutOfTrees, placed}
use Rattle.tables_make.specs.Migrated.{Grows, missing_tables}
use Rattle.tables_make.specs.Migrating.{FailsToMigrate, FailsToPutBy, MigratedRows, with_missing}
use Rattle.tables_rows.specs.Reasons.{IsReason, IsWithin, RunsOutOfRowids, Rows}
use Rattle.tables_sql.proofs.Rowids.{full_before, fuller}
use Rattle.tables_make.proofs.Growing.{foreign_grown}
use Rattle.tables_rows.proofs.Reasons.{within_then}

-- the tables that a schema lacks are the store's
abbrev AreOwn : Schema → Type 0
AreOwn from = (s : Shown) → AllByRecursion (λ t. names_store_table t.name ≡ true) (placed s (missing_tables from))

-- ---- rows that weren't put next to the tables that were made

module _ (from : Schema) (of_store : AreOwn from) (a b c : State) (made : MakesFurther (missing_tables from) a b)
    (before : Survives a b (λ _. ⊥)) where
  grown_within : IsWithin (grown (missing_tables from) a.now) b.now
  grown_within = record { schema = made.schema; foreign_rows = foreign_grown (missing_tables from) of_store a b made }

  reason_before : (rows : Rows) (f : Failed) → IsReason rows b c f → IsReason rows (with_missing from a) c f
  reason_before rows Memory h = tt
  reason_before rows Size h = let it =
      h.1 in (
        made.was_open,
        (
          it.0,
          within_then (grown (missing_tables from) a.now) b.now it.0 grown_within it.1,
          it.2,
          it.3,
          it.4,
          it.5,
        ),
      )
  reason_before rows Disk (inl (inl more)) = inl (inl (omega (arith, more, before.counts)))
  reason_before rows Disk (inl (inr shut)) = absurd (let no = sym made.is_open ∙ shut in cc)
  reason_before rows Disk (inr (inl limit)) = inr (inl (subst IsSome before.limit limit))
  reason_before rows Disk (inr (inr it)) =
      let db = grown (missing_tables from) a.now in
      inr (inr (
        it.0,
        it.1,
        it.2,
        fuller (0 + rows.count) rows.count db it.0 (omega arith)
            (full_before 0 rows.count db b.now it.0 made.schema made.numbers it.3),
      ))

  pub rows_fail : (rows : Rows) (f : Failed) → IsReason rows b c f → FailsToPutBy rows from a c f
  rows_fail rows f h = inr (reason_before rows f h)

-- ---- the transaction

module _ (rows : Rows) (from : Schema) (a b c : State) where
  -- what came after it, as a rollback, forgets no fault
  pub migrating_later : (P : Trees → Type 0) → Survives b c P → (f : Failed) → FailsToPutBy rows from a b f
      → FailsToPutBy rows from a c f
  migrating_later P after Memory h = inl tt
  migrating_later P after Size (inl h) = inl h
  migrating_later P after Size (inr h) = inr h
  migrating_later P after Disk (inl (inl (inl more))) = inl (inl (inl (omega (arith, more, after.counts))))
  migrating_later P after Disk (inl (inl (inr shut))) = inl (inl (inr shut))
  migrating_later P after Disk (inl (inr h)) = inl (inr h)
  migrating_later P after Disk (inr (inl (inl more))) = inr (inl (inl (omega (arith, more, after.counts))))
  migrating_later P after Disk (inr (inl (inr shut))) = inr (inl (inr shut))
  migrating_later P after Disk (inr (inr h)) = inr (inr h)

  -- a commit that failed after all was written
  pub migrating_commit : (contents : Contents) → Grows (missing_tables from) contents a b → Survives a b (λ _. ⊥)
      → (f : Failed) → FailsToCommit b c f → FailsToPutBy rows from a c f
  migrating_commit contents grew before Memory h = inl tt
  migrating_commit contents grew before Size h = absurd h
  migrating_commit contents grew before Disk (inl more, undone) = inl (inl (inl (omega (arith, more, before.counts))))
  migrating_commit contents grew before Disk (inr shut, undone) = absurd (let no = sym grew.is_open ∙ shut in cc)

-- seen from before the transaction was begun
pub migrating_begun : {S : Type 0} (g : Ghosts S) (conn start : Held S) (rows : Contents → Rows) (from : Schema)
    (b : State) → start ≡ record conn { in_transaction = true }
    → (f : Failed) → FailsToPutBy (rows (contents_of (state g start).now)) from (state g start) b f
    → FailsToPutBy (rows (contents_of (state g conn).now)) from (state g conn) b f
migrating_begun {S} g conn start rows from b is f h =
    same f (subst (λ (s : Held S). FailsToPutBy (rows (contents_of (state g s).now)) from (state g s) b f) is h)
  where
    same : (f : Failed) → FailsToPutBy (rows (contents_of (state g conn).now)) from
        (state g (record conn { in_transaction = true })) b f
        → FailsToPutBy (rows (contents_of (state g conn).now)) from (state g conn) b f
    same Memory h = inl tt
    same Size h = h
    same Disk h = h

-- ---- a read before it

-- the read failed
pub keys_fail : (rows : Rows) (from : Schema) (a b : State) (f : Failed) → FailsFor a b f → FailsToPutBy rows from a b f
keys_fail rows from a b Memory h = inl tt
keys_fail rows from a b Size h = absurd h.0
keys_fail rows from a b Disk (inl h) = inl (inl h.0)
keys_fail rows from a b Disk (inr h) = inr (inr (inl h.0))

-- it was done, and changed nothing
module _ (rows : Rows) (from : Schema) (a b c : State) (same : IsUnchanged a b) (first : Survives a b (λ _. ⊥)) where
  disk_before : HasDiskCause b c → HasDiskCause a c
  disk_before (inl more) = inl (omega (arith, more, first.counts))
  disk_before (inr shut) = absurd (let no = sym same.0.is_open ∙ shut in cc)

  abbrev Lacks : Database → Type 0
  Lacks db = RunsOutOfTrees db.schema (missing_tables from) ⊎ IsIndexNameUsed db.schema (missing_tables from)

  abbrev Large : Database → Type 0
  Large db = IsReason rows (with_missing from (record a { now = db })) c Size

  abbrev Full : Database → Type 0
  Full db = RunsOutOfRowids rows (grown (missing_tables from) db)

  pub migrating_before : (f : Failed) → FailsToPutBy rows from b c f → FailsToPutBy rows from a c f
  migrating_before Memory h = inl tt
  migrating_before Size (inl h) = absurd h.0
  migrating_before Size (inr h) = inr (same.0.was_open, (subst Large same.0.now_is (same.0.was_open, h.1)).1)
  migrating_before Disk (inl (inl cause)) = inl (inl (disk_before cause))
  migrating_before Disk (inl (inr (inl none))) = absurd none
  migrating_before Disk (inl (inr (inr lacks))) = inl (inr (inr (subst Lacks same.0.now_is lacks)))
  migrating_before Disk (inr (inl cause)) = inr (inl (disk_before cause))
  migrating_before Disk (inr (inr (inl limit))) = inr (inr (inl (subst IsSome first.limit limit)))
  migrating_before Disk (inr (inr (inr full))) = inr (inr (inr (subst Full same.0.now_is full)))

-- and so with the rows of a whole migration
pub whole_before : (from : Schema) (a b c : State) → IsUnchanged a b → Survives a b (λ _. ⊥) → (f : Failed)
    → FailsToMigrate from b c f → FailsToMigrate from a c f
whole_before from a b c same first f h =
    subst (λ (x : Database). FailsToPutBy (MigratedRows from (contents_of x)) from a c f) same.0.now_is
    (migrating_before (MigratedRows from (contents_of b.now)) from a b c same first f h)
