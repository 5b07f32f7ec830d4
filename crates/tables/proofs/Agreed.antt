-- Tables over a connection whose rows were read: they agree, and show the world of the rows.
use Rattle.std.proofs.Common.{◌≡◌, ℕ, false, List, sym, ap, subst, ◌∙◌, IsTrue}
use Rattle.sqlite_trees.specs.declared.store.Store.{Ghosts}
use Rattle.sqlite.specs.Effect.{Database}
use Rattle.sqlite.specs.State.{State, HasCleanDisk}
use Rattle.sqlite.specs.Held.{Held, state}
use Rattle.tables_sql.specs.Contents.{contents_of}
use Rattle.tables_sql.specs.Calls.{IsReady, IsWhole}
use Rattle.tables_world.specs.Worlds.{IsSoundContents, world_in}
use Rattle.tables_schema.specs.declared.schema.Schema.TheVariants.{V3}
use Rattle.tables_outline.specs.Outline.{OutlineValue, outline_of}
use Rattle.tables_writes.specs.TablesValue.{TablesValue, Agrees}
use Rattle.tables_schema.specs.Presence.{HasNone}
use Rattle.tables_make.specs.NewTables.{IsMade}
use Rattle.paths.specs.Names.{is_store_dir}
use Rattle.model.specs.World.{no_world}
use Rattle.tables.proofs.Made.{made_reports}
use Rattle.tables.specs.Opening.{IsFoundBy, AreRead, OpensExisting, OpensNew}

module _ {S : Type 0} (g : Ghosts S) (conn : Held S) (db : Database) (own : List ℕ) (outline : OutlineValue)
    (same : HasCleanDisk (state g conn) → (state g conn).now ≡ db)
    (reported : HasCleanDisk (state g conn) → AreRead V3 own db outline)
  where
    abbrev pub kept : TablesValue S
    kept = record { connection = conn; dir = own; outline = outline }

    pub agreed : (HasCleanDisk (state g conn) → IsWhole db) → conn.in_transaction ≡ false
        → (HasCleanDisk (state g conn) → IsTrue (state g conn).is_open → IsReady (state g conn)) → Agrees g kept
    agreed whole idle ready = record {
      idle = idle;
      rows = λ clean is_open. record {
        ready = ready clean is_open;
        whole = subst IsWhole (sym (same clean)) (whole clean);
        sound = subst (λ (d : Database). IsSoundContents own (contents_of d)) (sym (same clean)) (reported clean).0;
        same = ap (λ (d : Database). outline_of (world_in (contents_of d))) (same clean) ∙ (reported clean).1;
      };
    }

    pub took_over : (dir : List ℕ) → own ≡ dir → IsFoundBy V3 db → IsTrue (state g conn).is_open
        → HasCleanDisk (state g conn) → OpensExisting g dir db kept
    took_over dir is found is_open clean = record {
      holds =
          record {
            tables = found.tables;
            readable = found.readable;
            sound = subst (λ (x : List ℕ). IsSoundContents x (contents_of db)) is (reported clean).0;
          };
      is_open = is_open;
      same = same clean;
      reported = record {
        outline = (reported clean).1;
        rows = λ again is_open. ap (λ (d : Database). world_in (contents_of d)) (same clean);
        sound = (reported clean).0.world;
      };
    }

-- tables that were made
module _ {S : Type 0} (g : Ghosts S) (conn : Held S) (old : State) (own : List ℕ) (outline : OutlineValue)
    (valid : IsTrue (is_store_dir own)) (is : outline ≡ outline_of no_world)
    (made : HasCleanDisk (state g conn) → IsMade own old (state g conn))
  where
    pub took_new : HasNone old.now.schema → HasCleanDisk (state g conn)
        → OpensNew g old.now (record { connection = conn; dir = own; outline = outline })
    took_new none clean =
        record {
          none = none;
          is_open = (made clean).is_open;
          schema = (made clean).schema;
          foreign_rows = (made clean).foreign_rows;
          frozen = (made clean).frozen;
          reported = made_reports g conn old own outline valid is made;
        }
