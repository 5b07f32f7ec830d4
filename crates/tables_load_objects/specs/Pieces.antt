-- The table of pieces, which not each schema has.
use Rattle.std.specs.Prelude.{◌≡◌, IsTrue, IsFalse}
use Rattle.std.specs.FinMap as finite
use Rattle.sqlite_trees.specs.declared.store.Store.{Ghosts}
use Rattle.sqlite.specs.State.{HasCleanDisk}
use Rattle.sqlite.specs.Held.{Held, state}
use Rattle.tables_schema.specs.declared.schema.Schema.{Schema}
use Rattle.tables_schema.specs.Forms.{piece}
use Rattle.tables_schema.specs.Schemas.{has_pieces}
use Rattle.tables_sql.specs.Calls.{HasFurther}
use Rattle.tables_sql.specs.Contents.{contents_of}

module _ {S : Type 0} (g : Ghosts S) where
  -- by a schema that has it, it is there, and by the others there is no piece, unless a fault has shut the connection
  pub record HasPiecesBy (schema : Schema) (at : Held S) : Type 0 where
    pub exists : HasCleanDisk (state g at) → IsTrue (has_pieces schema) → IsTrue (state g at).is_open
        → HasFurther (state g at).now piece
    pub no_table : HasCleanDisk (state g at) → IsFalse (has_pieces schema) → IsTrue (state g at).is_open
        → (contents_of (state g at).now).pieces ≡ finite.empty
