-- Tables that were just made.
use Rattle.std.proofs.Common.{◌≡◌, ◌⊎◌, inl, inr, ℕ, false, List, [], refl, sym, ap, subst, ◌∙◌, IsTrue, arith}
use Rattle.std.specs.Prelude.{IsSome, codes, length}
use Rattle.std.proofs.lemmas.Bool.{and_parts, false≢true, leb-true}
use Rattle.sqlite_schema.specs.declared.schema.Schema.{Schema}
use Rattle.sqlite_trees.specs.declared.store.Store.{Ghosts}
use Rattle.sqlite_trees.specs.declared.memory.MemStore.{MemStore}
use Rattle.sqlite.specs.State.{State, HasCleanDisk}
use Rattle.sqlite.specs.Held.{Held, IsNew, state}
use Rattle.sqlite.specs.Steps.{IsEmpty, over_memory}
use Rattle.tables_schema.specs.Forms.{all_tables}
use Rattle.tables_sql.specs.declared.failure.Failed.{Failed}
use Rattle.tables_sql.specs.declared.failure.Failed.TheVariants.{Memory, Size, Disk}
use Rattle.tables_sql.specs.Contents.{Contents}
use Rattle.tables_schema.specs.Presence.{HasNone, IsFree}
use Rattle.tables_make.specs.NewTables.{FailsToMake, IsMade, IsTooLong, IsIndexNameUsed, RunsOutOfTrees, first_contents}
use Rattle.paths.specs.Names.{is_store_dir}
use Rattle.model.specs.World.{no_world}
use Rattle.tables_schema.specs.declared.schema.Schema.TheVariants.{V3}
use Rattle.tables_world.proofs.NewRows.{reports_nothing, new_rows_sound}
use Rattle.tables_world.proofs.NewWorld.{new_world_sound}
use Rattle.tables_world.specs.Worlds.{IsSoundContents, world_in}
use Rattle.tables_writes.specs.TablesValue.{Agrees, HasWorld}
use Rattle.tables_outline.specs.Outline.{OutlineValue, outline_of}

abbrev no_schema : Schema
no_schema = record { tables = []; indexes = []; views = [] }

free : (name : List ℕ) → IsFree no_schema name
free name = record { table = refl; index = refl; view = refl; unawaited = refl }

-- where there is nothing, there is nothing of the store
pub empty_has_none : (s : Schema) → s ≡ record { tables = []; indexes = []; views = [] } → HasNone s
empty_has_none s is = subst HasNone (sym is) (record {
  free = (
    free (codes "meta"),
    (
      free (codes "object"),
      (
        free (codes "refs"),
        (
          free (codes "outs"),
          (
            free (codes "permanent"),
            (
              free (codes "user_root"),
              (free (codes "profile"), (free (codes "generation"), (free (codes "runtime"), tt))),
            ),
          ),
        ),
      ),
    ),
  );
  further = (free (codes "piece"), (free (codes "temp_root"), tt));
  counted = refl;
})

sound_first : (dir : List ℕ) → IsTrue (is_store_dir dir) → IsSoundContents dir (first_contents dir)
sound_first dir h = new_rows_sound V3 dir h

reports_first : (dir : List ℕ) → world_in (first_contents dir) ≡ no_world
reports_first dir = reports_nothing V3 dir

module _ {S : Type 0} (g : Ghosts S) (conn : Held S) (old : State) (dir : List ℕ) (outline : OutlineValue)
    (valid : IsTrue (is_store_dir dir)) (is : outline ≡ outline_of no_world)
    (made : HasCleanDisk (state g conn) → IsMade dir old (state g conn))
  where
    pub made_agrees : conn.in_transaction ≡ false
        → Agrees g (record { connection = conn; dir = dir; outline = outline })
    made_agrees idle = record {
      idle = idle;
      rows = λ clean _.
          let it = made clean in
          record {
            ready = it.ready;
            whole = it.whole;
            sound = subst (IsSoundContents dir) (sym it.contents) (sound_first dir valid);
            same =
                ap (λ (c : Contents). outline_of (world_in c)) it.contents ∙ ap outline_of (reports_first dir) ∙ sym is;
          };
    }

    pub made_reports : HasWorld g (record { connection = conn; dir = dir; outline = outline }) no_world
    made_reports = record {
      outline = sym is;
      rows = λ clean _. ap world_in (made clean).contents ∙ reports_first dir;
      sound = new_world_sound dir;
    }

-- ---- why none are made in memory

-- numbers and names are left where there is nothing
none_missing : (s : Schema) → s ≡ no_schema → RunsOutOfTrees s all_tables ⊎ IsIndexNameUsed s all_tables → ⊥
none_missing s is h = by (subst (λ (x : Schema). RunsOutOfTrees x all_tables ⊎ IsIndexNameUsed x all_tables) is h)
  where
    by : RunsOutOfTrees no_schema all_tables ⊎ IsIndexNameUsed no_schema all_tables → ⊥
    by (inl few) = absurd (omega (arith, few))
    by (inr used) = absurd (false≢true used)

-- a directory fits into its row
not_long : (dir : List ℕ) → IsTrue (is_store_dir dir) → IsTooLong dir → ⊥
not_long dir valid long =
    absurd (omega (arith, leb-true (length dir) 200 (and_parts _ _ (and_parts _ _ valid).0).0, long))

-- it ran out
pub memory_only : (conn new : Held MemStore) (dir : List ℕ) → IsTrue (is_store_dir dir)
    → IsEmpty (state over_memory conn) → IsNew conn → (f : Failed)
    → FailsToMake dir (state over_memory conn) (state over_memory new) f → f ≡ Memory
memory_only conn new dir valid empty fresh Memory h = refl
memory_only conn new dir valid empty fresh Size h = absurd (not_long dir valid h.0)
memory_only conn new dir valid empty fresh Disk (inl (inl more)) = absurd (omega (arith, more))
memory_only conn new dir valid empty fresh Disk (inl (inr shut)) = absurd (false≢true (sym shut ∙ empty.0.is_open))
memory_only conn new dir valid empty fresh Disk (inr (inl limit)) =
    absurd (false≢true (subst IsSome fresh.unlimited limit))
memory_only conn new dir valid empty fresh Disk (inr (inr lacks)) = absurd (none_missing conn.schema empty.2 lacks)
