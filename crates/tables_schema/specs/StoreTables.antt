-- The store's tables by their names: those of each schema, and the form of each.
use Rattle.std.specs.Prelude.{List, [], ◌∷◌, ◌++◌}
use Rattle.sqlite_schema.specs.declared.schema.Table.{Table}
use Rattle.tables_schema.specs.Forms.{meta, object, refs, outs, permanent, user_root, profile, generation, runtime}
use Rattle.tables_schema.specs.Forms.{piece, temp_root}
use Rattle.tables_schema.specs.declared.store_table.StoreTable.{StoreTable}
use Rattle.tables_schema.specs.declared.store_table.StoreTable.TheVariants.{Meta, Object, Refs, Outs, Permanent}
use Rattle.tables_schema.specs.declared.store_table.StoreTable.TheVariants.{UserRoot, Profile, Generation, Runtime}
use Rattle.tables_schema.specs.declared.store_table.StoreTable.TheVariants.{Piece, TempRoot}
use Rattle.tables_schema.specs.declared.schema.Schema.{Schema}
use Rattle.tables_schema.specs.declared.schema.Schema.TheVariants.{V1, V2, V3}

abbrev nine : List StoreTable
nine = Meta ∷ Object ∷ Refs ∷ Outs ∷ Permanent ∷ UserRoot ∷ Profile ∷ Generation ∷ Runtime ∷ []

-- the tables of a schema, in the order in which they are made in a new database
abbrev pub schema_tables : Schema → List StoreTable
schema_tables V1 = nine
schema_tables V2 = nine ++ Piece ∷ []
schema_tables V3 = nine ++ Piece ∷ TempRoot ∷ []

abbrev pub form : StoreTable → Table
form Meta = meta
form Object = object
form Refs = refs
form Outs = outs
form Permanent = permanent
form UserRoot = user_root
form Profile = profile
form Generation = generation
form Runtime = runtime
form Piece = piece
form TempRoot = temp_root
