-- What loading roots requires of a connection and an outline, and what it makes of them.
use Rattle.std.specs.Prelude.{◌≡◌, Bool, IsTrue, IsFalse, Result, IfOk}
use Rattle.std.specs.FinMap as finite
use Rattle.sqlite_trees.specs.declared.store.Store.{Ghosts}
use Rattle.sqlite.specs.State.{HasCleanDisk}
use Rattle.sqlite.specs.Held.{Held, state}
use Rattle.tables_schema.specs.declared.schema.Schema.{Schema}
use Rattle.tables_schema.specs.Forms.{temp_root}
use Rattle.tables_schema.specs.Schemas.{has_temporary}
use Rattle.tables_sql.specs.Calls.{HasFurther}
use Rattle.tables_sql.specs.Contents.{Contents, contents_of}
use Rattle.tables_sql.specs.declared.failure.Failed.{Failed}
use Rattle.tables_rows.specs.Frames.{MayRead, ReadsOnly}
use Rattle.tables_outline.specs.Outline.{OutlineValue}
use Rattle.tables_load_roots.specs.Loaded.{Objects}

module _ {S : Type 0} (g : Ghosts S) where
  -- the connection may be read, and the outline has room for the roots of its rows
  pub record MayLoad (old : Held S) (outline : OutlineValue) (has_room : OutlineValue → Contents → Type 0)
      : Type 0 where
    pub frame : MayRead g old
    pub fits : HasCleanDisk (state g old) → has_room outline (contents_of (state g old).now)

  -- The connection may be read. By a schema with a table of temporary roots it is there, and by the others there is no
  -- such root. The outline has no roots yet.
  pub record MayLoadAll (schema : Schema) (old : Held S) (outline : OutlineValue) : Type 0 where
    pub frame : MayRead g old
    pub exists : HasCleanDisk (state g old) → IsTrue (has_temporary schema) → IsTrue (state g old).is_open
        → HasFurther (state g old).now temp_root
    pub no_table : HasCleanDisk (state g old) → IsFalse (has_temporary schema) → IsTrue (state g old).is_open
        → (contents_of (state g old).now).temp_roots ≡ finite.empty
    pub permanent : HasCleanDisk (state g old) → outline.permanent ≡ finite.empty
    pub user_roots : HasCleanDisk (state g old) → outline.user_roots ≡ finite.empty
    pub profiles : HasCleanDisk (state g old) → outline.profiles ≡ finite.empty
    pub runtime : HasCleanDisk (state g old) → outline.runtime ≡ finite.empty
    pub temporary : HasCleanDisk (state g old) → outline.temporary ≡ finite.empty

  -- Roots are read and tested with the objects of the outline. If they are sound, they are put into it.
  pub record Loads (old new : Held S) (result : Result Bool Failed) (before after : OutlineValue)
      (are_sound : Objects → Contents → Bool) (with_rows : OutlineValue → Contents → OutlineValue) : Type 0 where
    pub read : ReadsOnly g old new result
    pub reported : HasCleanDisk (state g new)
        → IfOk result (λ ok. ok ≡ are_sound before.objects (contents_of (state g old).now))
    pub loaded : HasCleanDisk (state g new)
        → IfOk result (λ ok. IsTrue ok → after ≡ with_rows before (contents_of (state g old).now))
