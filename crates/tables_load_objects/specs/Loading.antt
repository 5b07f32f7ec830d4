-- What the reads of objects require of a connection, and what loading them promises.
use Rattle.std.specs.Prelude.{◌≡◌, ◌↔◌, Bool, List, Result, IsTrue, IfOk}
use Rattle.sqlite_trees.specs.declared.store.Store.{Ghosts}
use Rattle.sqlite.specs.State.{HasCleanDisk}
use Rattle.sqlite.specs.Held.{Held, state}
use Rattle.tables_sql.specs.Contents.{Contents, contents_of}
use Rattle.tables_sql.specs.declared.failure.Failed.{Failed}
use Rattle.tables_rows.specs.declared.objects.Object.{Object}
use Rattle.tables_rows.specs.Frames.{MayRead, ReadsOnly}
use Rattle.tables_schema.specs.declared.schema.Schema.{Schema}
use Rattle.tables_load_objects.specs.declared.source.Source.{Source}
use Rattle.tables_load_objects.specs.Pieces.{HasPiecesBy}
use Rattle.tables_load_objects.specs.Rows.{AreJoined, AreStored}

module _ {S : Type 0} (g : Ghosts S) where
  -- a connection may be read, and has pieces as the schema says
  pub record MayReadBy (schema : Schema) (at : Held S) : Type 0 where
    pub frame : MayRead g at
    pub pieces : HasPiecesBy g schema at

  -- A connection may be read, and has pieces as the schema of a source says. Unless a fault has shut it, it is open,
  -- and it has the source's rows of other tables and the objects that were read ahead.
  pub record MayReadFrom (source : Source) (objects : List Object) (at : Held S) : Type 0 where
    pub frame : MayRead g at
    pub opened : HasCleanDisk (state g at) → IsTrue (state g at).is_open
    pub pieces : HasPiecesBy g source.schema at
    pub joined : HasCleanDisk (state g at) → AreJoined (contents_of (state g at).now) source.joined.now
    pub ahead : HasCleanDisk (state g at) → AreStored (contents_of (state g at).now) objects

  -- The answer is true if and only if the contents are sound, and then what is loaded is made of them. The contents are
  -- only read.
  pub record Loads {T : Type 0} (old new : Held S) (result : Result Bool Failed) (loaded_now : T)
      (AreSound : Contents → Type 0) (loaded_of : Contents → T) : Type 0 where
    pub read : ReadsOnly g old new result
    pub reported : HasCleanDisk (state g new)
        → IfOk result (λ ok. IsTrue ok ↔ AreSound (contents_of (state g old).now))
    pub loaded : HasCleanDisk (state g new)
        → IfOk result (λ ok. IsTrue ok → loaded_now ≡ loaded_of (contents_of (state g old).now))
