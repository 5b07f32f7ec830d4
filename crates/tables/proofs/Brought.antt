-- Tables over a connection whose rows were read by a schema, and then brought to the third: they agree, and show the
-- world of the rows.
use Rattle.std.proofs.Common.{◌≡◌, ℕ, false, List, Ok, refl, sym, ap, subst, ◌∙◌, IsTrue}
use Rattle.sqlite_trees.specs.declared.store.Store.{Ghosts}
use Rattle.sqlite.specs.Effect.{Database}
use Rattle.sqlite.specs.State.{State, HasCleanDisk, IsUnchanged, Survives}
use Rattle.sqlite.proofs.StateLemmas.{survives_then, survives_weaker}
use Rattle.sqlite_schema.specs.declared.schema.Table.{Table}
use Rattle.sqlite_trees.proofs.ListLemmas.{all_of}
use Rattle.tables_schema.specs.Forms.{names_store_table}
use Rattle.sqlite.specs.Held.{Held, state}
use Rattle.tables_sql.specs.Contents.{contents_of}
use Rattle.tables_sql.proofs.Steps.{clean_before}
use Rattle.tables_schema.specs.declared.schema.Schema.{Schema}
use Rattle.tables_schema.specs.declared.schema.Schema.TheVariants.{V3}
use Rattle.tables_sql.specs.Calls.{IsDurable}
use Rattle.tables_sql.proofs.Transactions.{survives_none}
use Rattle.tables_make.specs.Commits.{Migrates}
use Rattle.tables.specs.Adopted.{HasTables}
use Rattle.tables.proofs.FoundTables.{whole_by}
use Rattle.model.specs.Sound.{IsSound}
use Rattle.tables_world.specs.Worlds.{IsSoundBy, IsSoundContents, rows_of, world_in}
use Rattle.tables_world.proofs.Migrating.{migrates_soundly}
use Rattle.tables_outline.specs.Outline.{OutlineValue, outline_of}
use Rattle.tables_make.specs.Migrated.{missing_tables, migrated_contents, IsGrown, IsMigrated, LeavesMigrated}
use Rattle.tables_make.proofs.Grown.{grown_from}
use Rattle.tables_writes.specs.TablesValue.{Agrees}
use Rattle.tables.specs.Opening.{IsFoundBy, AreRead, OpensMigrated, LeavesMigration}

-- rows that were read from `a` to `b`, and then brought to the third schema from `b` to `d`
module _ (schema : Schema) (dir : List ℕ) (a b d : State) (same : HasCleanDisk b → IsUnchanged a b)
    (sound : HasCleanDisk b → IsSoundBy schema dir (contents_of a.now)) where
  sound_still : HasCleanDisk b → IsSoundBy schema dir (contents_of b.now)
  sound_still clean =
      subst (λ (x : Database). IsSoundBy schema dir (contents_of x)) (sym (same clean).0.now_is) (sound clean)

  pub both_migrate : HasCleanDisk b → ((x : List ℕ) → IsSoundBy schema x (contents_of b.now) → IsMigrated schema x b d)
      → IsMigrated schema dir a d
  both_migrate clean done =
      subst (λ (x : Database). IsGrown (missing_tables schema) (migrated_contents schema dir (contents_of x)) a d)
      (same clean).0.now_is
      (grown_from (missing_tables schema) (migrated_contents schema dir (contents_of b.now)) a b d (same clean)
      (done dir (sound_still clean)))

  pub both_leave : (HasCleanDisk a → IsFoundBy schema a.now) → Survives a b (λ _. ⊥)
      → Survives b d (λ db. (x : List ℕ) → IsSoundBy schema x (contents_of b.now) → LeavesMigrated schema x b.now db)
      → Survives a d (LeavesMigration schema dir a.now)
  both_leave found first last =
      survives_then a b d (λ _. ⊥) (λ db. (x : List ℕ) → IsSoundBy schema x (contents_of b.now)
      → LeavesMigrated schema x b.now db) (LeavesMigration schema dir a.now) (λ clean db none. absurd none)
      (λ clean db l.
      let early : HasCleanDisk b = clean_before b d _ last clean in
      let it = found (clean_before a b _ first early) in (
        record { tables = it.tables; readable = it.readable; sound = sound early },
        subst (λ (x : Database). LeavesMigrated schema dir x db) (same early).0.now_is (l dir (sound_still early)),
      ))
      first last

module _ {S : Type 0} (g : Ghosts S) (conn : Held S) (old : State) (schema : Schema) (dir own : List ℕ)
    (outline : OutlineValue) (is : own ≡ dir)
    (reported : HasCleanDisk (state g conn) → AreRead schema dir old.now outline)
    (brought : HasCleanDisk (state g conn) → IsMigrated schema dir old (state g conn))
  where
    same_world : HasCleanDisk (state g conn)
        → world_in (contents_of (state g conn).now) ≡ world_in (contents_of old.now)
    same_world clean =
        ap world_in (brought clean).contents_are
        ∙ (migrates_soundly schema dir (rows_of (contents_of old.now)) (reported clean).0).1

    pub brought_agrees : conn.in_transaction ≡ false
        → Agrees g (record { connection = conn; dir = own; outline = outline })
    brought_agrees idle = record {
      idle = idle;
      rows = λ clean is_open.
          let it = brought clean in
          let sound : IsSoundContents dir (migrated_contents schema dir (contents_of old.now)) =
          (migrates_soundly schema dir (rows_of (contents_of old.now)) (reported clean).0).0 in
          record {
            ready = it.ready;
            whole = it.whole;
            sound =
                subst (λ (x : List ℕ). IsSoundContents x (contents_of (state g conn).now)) (sym is)
                (subst (IsSoundContents dir) (sym it.contents_are) sound);
            same = ap outline_of (same_world clean) ∙ (reported clean).1;
          };
    }

    pub took_migrated : IsFoundBy schema old.now → HasCleanDisk (state g conn)
        → OpensMigrated g schema dir old.now (record { connection = conn; dir = own; outline = outline })
    took_migrated found clean =
        let it = brought clean in
        record {
          holds = record { tables = found.tables; readable = found.readable; sound = (reported clean).0 };
          is_open = it.is_open;
          schema = it.schema;
          contents_are = it.contents_are;
          foreign_rows = it.foreign_rows;
          frozen = it.frozen;
          reported = record {
            outline = (reported clean).1;
            rows = λ again is_open. same_world clean;
            sound =
                subst (λ (x : List ℕ). IsSound x (world_in (contents_of old.now))) (sym is) (reported clean).0.world;
          };
        }

-- tables of the third schema stay as they are
pub third_stays : {S T : Type 0} (g : Ghosts S) (conn : Held S) (from : Schema) (v : T) → from ≡ V3
    → HasTables g V3 conn → (HasCleanDisk (state g conn) → IsTrue (state g conn).is_open)
    → (IsTrue (state g conn).is_open → IsDurable (state g conn)) → Migrates g conn conn (Ok v) from
third_stays {S} {T} g conn from v is it is_open durable =
    let a = state g conn in
    let stays : Migrates g conn conn (Ok v) V3 = record {
      idle = it.idle;
      done = λ clean dir sound. record {
        was_open = is_open clean;
        is_open = is_open clean;
        schema = refl;
        contents_are = refl;
        foreign_rows =
            all_of (λ (t : Table). names_store_table t.name ≡ false → a.now.trees t.tree ≡ a.now.trees t.tree)
            (λ t other. refl) a.now.schema.tables;
        frozen = record { rows = λ tree hidden. refl; texts = λ row present foreign. present; version = refl };
        whole = whole_by a.now (it.ready clean).of_store (it.found clean).further;
        ready = it.ready clean;
      };
      failed = λ clean. tt;
      cause = λ clean. tt;
      durable = durable;
      survives = survives_weaker a a (λ _. ⊥) _ (λ clean db no. absurd no) (survives_none a);
    } in
    subst (λ (s : Schema). Migrates g conn conn (Ok v) s) (sym is) stays
