-- The store's tables as they are tested: by a query of their rowids and texts.
use Rattle.std.specs.Prelude.{ℕ, List, codes}
use Rattle.sqlite.specs.Effect.{Database}
use Rattle.tables_schema.specs.StoreTables.{form}
use Rattle.tables_sql.specs.Contents.{rows_named}
use Rattle.tables_sql.specs.Texts.{AreReadableRows}
use Rattle.tables_sql.specs.Calls.{IsKeyed}
use Rattle.tables_schema.specs.declared.store_table.StoreTable.{StoreTable}
use Rattle.tables_schema.specs.declared.store_table.StoreTable.TheVariants.{Meta, Object, Refs, Outs, Permanent}
use Rattle.tables_schema.specs.declared.store_table.StoreTable.TheVariants.{UserRoot, Profile, Generation, Runtime}
use Rattle.tables_schema.specs.declared.store_table.StoreTable.TheVariants.{Piece, TempRoot}

-- the query for the rowid and each text of each row
abbrev pub rows_text : StoreTable → List ℕ
rows_text Meta = codes "SELECT rowid, word, val FROM meta"
rows_text Object = codes "SELECT rowid, base, hash, deriver, ca FROM object"
rows_text Refs = codes "SELECT rowid, base, target FROM refs"
rows_text Outs = codes "SELECT rowid, base, name, target FROM outs"
rows_text Permanent = codes "SELECT rowid, name, target FROM permanent"
rows_text UserRoot = codes "SELECT rowid, owner, name, target FROM user_root"
rows_text Profile = codes "SELECT rowid, owner, name, cur FROM profile"
rows_text Generation = codes "SELECT rowid, owner, name, num, target FROM generation"
rows_text Runtime = codes "SELECT rowid, label, target FROM runtime"
rows_text Piece = codes "SELECT rowid, base, num FROM piece"
rows_text TempRoot = codes "SELECT rowid, owner, session, target FROM temp_root"

-- each of its rows has a rowid of its own, an integer
abbrev pub HasOwnRowids : Database → StoreTable → Type 0
HasOwnRowids db t = IsKeyed (rows_named db (form t).name)

-- each of its texts is UTF-8
abbrev pub HasReadableTexts : Database → StoreTable → Type 0
HasReadableTexts db t = AreReadableRows (form t) (rows_named db (form t).name)
