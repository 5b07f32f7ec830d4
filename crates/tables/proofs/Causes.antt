-- Why a store isn't opened, one step after another.
use Rattle.std.proofs.Common.{◌⊎◌, ℕ, List, inl, inr, refl, sym, subst, ◌∙◌, arith}
use Rattle.std.specs.Prelude.{◌≢◌, IsSome}
use Rattle.sqlite.specs.Effect.{Database}
use Rattle.sqlite.specs.State.{State, IsUnchanged, Survives}
use Rattle.tables_schema.specs.Presence.{HasNone, HasFirst, HasSecond}
use Rattle.tables_schema.specs.declared.schema.Schema.{Schema}
use Rattle.tables_schema.specs.declared.schema.Schema.TheVariants.{V1, V2, V3}
use Rattle.tables_schema.specs.Forms.{all_tables}
use Rattle.tables_sql.specs.declared.failure.Failed.{Failed}
use Rattle.tables_sql.specs.declared.failure.Failed.TheVariants.{Memory, Size, Disk}
use Rattle.tables_sql.specs.Failures.{HasDiskCause, FailsToRead}
use Rattle.tables_make.specs.NewTables.{RunsOutOfTrees, IsIndexNameUsed, FailsToMake}
use Rattle.tables_make.specs.Migrating.{FailsToMigrate}
use Rattle.tables_make.proofs.MigratingFailures.{whole_before}
use Rattle.tables_recognize.specs.Opened.{HasUnkeyed, FailsToOpen}
use Rattle.tables.specs.declared.unopened.Cause.{Cause}
use Rattle.tables.specs.declared.unopened.Cause.TheVariants.{BadSchema, OtherStoreDir, Failed as failing}
use Rattle.tables.specs.Opening.{IsFoundBy, IsRefusal, IsCause}

-- ---- what failed

read_opens : (old new : State) (f : Failed) → FailsToRead old new f → FailsToOpen old new f
read_opens old new Memory h = tt
read_opens old new Size h = h
read_opens old new Disk (inl cause) = inl cause
read_opens old new Disk (inr (inl limit)) = inr (inl limit)
read_opens old new Disk (inr (inr none)) = absurd none

-- a read
pub read_cause : (dir : List ℕ) (old new : State) (f : Failed) → FailsToRead old new f → IsCause dir old new (failing f)
read_cause dir old new f h = inl (read_opens old new f h)

-- the making of tables
pub make_cause : (dir : List ℕ) (old new : State) (f : Failed) → HasNone old.now.schema → FailsToMake dir old new f
    → IsCause dir old new (failing f)
make_cause dir old new f none h = inr (inl (none, h))

-- a migration, which those of the third schema have none of
pub migration_cause : (dir : List ℕ) (old new : State) (f : Failed) (schema : Schema) → IsFoundBy schema old.now
    → schema ≢ V3 → FailsToMigrate schema old new f → IsCause dir old new (failing f)
migration_cause dir old new f V1 found other h = inr (inr (inl (found.tables, h)))
migration_cause dir old new f V2 found other h = inr (inr (inr (found.tables, h)))
migration_cause dir old new f V3 found other h = absurd (other refl)

-- ---- after a step that changed nothing

module _ (a b c : State) (same : IsUnchanged a b) (first : Survives a b (λ _. ⊥)) where
  disk_before : HasDiskCause b c → HasDiskCause a c
  disk_before (inl more) = inl (omega (arith, more, first.counts))
  disk_before (inr shut) = absurd (let no = sym same.0.is_open ∙ shut in cc)

  open_before : (f : Failed) → FailsToOpen b c f → FailsToOpen a c f
  open_before Memory h = tt
  open_before Size h = h
  open_before Disk (inl cause) = inl (disk_before cause)
  open_before Disk (inr (inl limit)) = inr (inl (subst IsSome first.limit limit))
  open_before Disk (inr (inr unkeyed)) = inr (inr (subst HasUnkeyed same.0.now_is unkeyed))

  make_before : (dir : List ℕ) (f : Failed) → FailsToMake dir b c f → FailsToMake dir a c f
  make_before dir Memory h = tt
  make_before dir Size h = (h.0, same.0.was_open)
  make_before dir Disk (inl cause) = inl (disk_before cause)
  make_before dir Disk (inr (inl limit)) = inr (inl (subst IsSome first.limit limit))
  make_before dir Disk (inr (inr lacks)) =
      inr (inr (subst (λ (x : Database). RunsOutOfTrees x.schema all_tables ⊎ IsIndexNameUsed x.schema all_tables)
      same.0.now_is lacks))

  pub cause_before : (dir : List ℕ) (e : Cause) → IsCause dir b c e → IsCause dir a c e
  cause_before dir BadSchema h = subst (λ (x : Database). IsRefusal dir x BadSchema) same.0.now_is h
  cause_before dir OtherStoreDir h = subst (λ (x : Database). IsRefusal dir x OtherStoreDir) same.0.now_is h
  cause_before dir (failing f) (inl h) = inl (open_before f h)
  cause_before dir (failing f) (inr (inl h)) =
      inr (inl (subst (λ (x : Database). HasNone x.schema) same.0.now_is h.0, make_before dir f h.1))
  cause_before dir (failing f) (inr (inr (inl h))) =
      inr (inr (inl (
        subst (λ (x : Database). HasFirst x.schema) same.0.now_is h.0,
        whole_before V1 a b c same first f h.1,
      )))
  cause_before dir (failing f) (inr (inr (inr h))) =
      inr (inr (inr (
        subst (λ (x : Database). HasSecond x.schema) same.0.now_is h.0,
        whole_before V2 a b c same first f h.1,
      )))
