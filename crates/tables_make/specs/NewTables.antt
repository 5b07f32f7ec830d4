-- What the making of the store's tables leaves: they come after all that was there, and hold no row, but `meta` its two
-- settings. And why it fails.
use Rattle.std.specs.Prelude.{◌≡◌, ◌≢◌, ◌⊎◌, ℕ, ◌+◌, ◌*◌, ◌^◌, ◌<◌, Bool, true, false, not, ◌&&◌, List, [], ◌∷◌, ◌++◌}
use Rattle.std.specs.Prelude.{length, None, IsSome, IsTrue, IsUtf8, ⊤, codes}
use Rattle.std.specs.Fmt.{decimal}
use Rattle.std.specs.List.{AllByRecursion, list_all, list_any}
use Rattle.std.specs.FinMap as finite
use Rattle.sqlite_value.specs.Order.{Row}
use Rattle.sqlite_value.specs.declared.value.Value.TheVariants.{Int, Text}
use Rattle.sqlite_trees.specs.Tree.{Trees, put_row}
use Rattle.sqlite_schema.specs.declared.schema.Schema.{Schema}
use Rattle.sqlite_schema.specs.declared.schema.Table.{Table}
use Rattle.sqlite_schema.specs.Names.{same_name}
use Rattle.sqlite_rules.specs.Edit.{next_rowid}
use Rattle.sqlite_catalog.specs.Change.{created, next_tree, is_used}
use Rattle.sqlite.specs.Does.{lacks_sequence}
use Rattle.sqlite.specs.Effect.{Database, IsDatabase}
use Rattle.sqlite.specs.State.{State}
use Rattle.tables_schema.specs.Forms.{meta, object, refs, outs, permanent, user_root, profile, generation, runtime}
use Rattle.tables_schema.specs.Forms.{piece, temp_root, all_tables}
use Rattle.tables_schema.specs.declared.store_table.StoreTable.{StoreTable}
use Rattle.tables_schema.specs.declared.store_table.StoreTable.TheVariants.{Meta, Object, Refs, Outs, Permanent}
use Rattle.tables_schema.specs.declared.store_table.StoreTable.TheVariants.{UserRoot, Profile, Generation, Runtime}
use Rattle.tables_schema.specs.declared.store_table.StoreTable.TheVariants.{Piece, TempRoot}
use Rattle.tables_schema.specs.Intact.{IsNamed, tree_named}
use Rattle.tables_schema.specs.Presence.{IsFree}
use Rattle.tables_sql.specs.Contents.{Bytes, Contents, contents_of, texts_cmp, is_pair, pair_of, map_of, rows_named}
use Rattle.tables_sql.specs.Frozen.{KeepsFrozen, SparesFrozen}
use Rattle.tables_sql.specs.Texts.{AreReadable, AreReadableRows}
use Rattle.tables_sql.specs.Calls.{IsKeyed, IsWhole, IsReady, KeepsForeignRows, Leaves}
use Rattle.tables_sql.specs.Failures.{HasDiskCause}
use Rattle.tables_sql.specs.declared.failure.Failed.{Failed}
use Rattle.tables_sql.specs.declared.failure.Failed.TheVariants.{Memory, Size, Disk}

-- the text that makes a table
abbrev pub making_text : StoreTable → List ℕ
making_text Meta = codes "CREATE TABLE meta (word TEXT NOT NULL, val TEXT NOT NULL, PRIMARY KEY (word)) STRICT"
making_text Object =
    codes "CREATE TABLE object (base TEXT NOT NULL, nar BLOB NOT NULL, hash BLOB NOT NULL, deriver TEXT, ca TEXT, PRIMARY KEY (base)) STRICT"
making_text Refs =
    codes "CREATE TABLE refs (base TEXT NOT NULL, target TEXT NOT NULL, PRIMARY KEY (base, target)) STRICT"
making_text Outs =
    codes "CREATE TABLE outs (base TEXT NOT NULL, name TEXT NOT NULL, target TEXT NOT NULL, PRIMARY KEY (base, name)) STRICT"
making_text Permanent =
    codes "CREATE TABLE permanent (name TEXT NOT NULL, target TEXT NOT NULL, PRIMARY KEY (name)) STRICT"
making_text UserRoot =
    codes "CREATE TABLE user_root (owner TEXT NOT NULL, name TEXT NOT NULL, target TEXT NOT NULL, PRIMARY KEY (owner, name)) STRICT"
making_text Profile =
    codes "CREATE TABLE profile (owner TEXT NOT NULL, name TEXT NOT NULL, cur INTEGER NOT NULL, PRIMARY KEY (owner, name)) STRICT"
making_text Generation =
    codes "CREATE TABLE generation (owner TEXT NOT NULL, name TEXT NOT NULL, num INTEGER NOT NULL, target TEXT NOT NULL, PRIMARY KEY (owner, name, num)) STRICT"
making_text Runtime =
    codes "CREATE TABLE runtime (label TEXT NOT NULL, target TEXT NOT NULL, PRIMARY KEY (label, target)) STRICT"
making_text Piece =
    codes "CREATE TABLE piece (base TEXT NOT NULL, num INTEGER NOT NULL, bytes BLOB NOT NULL, PRIMARY KEY (base, num)) STRICT"
making_text TempRoot =
    codes "CREATE TABLE temp_root (owner TEXT NOT NULL, session INTEGER NOT NULL, target TEXT NOT NULL, PRIMARY KEY (owner, session, target)) STRICT"

-- the name of the index that `sqlite` makes for a table's key
abbrev pub index_of : Bytes → Bytes
index_of name = codes "sqlite_autoindex_" ++ (name ++ (codes "_" ++ decimal 1))

-- the title is of a table, and neither it nor the name of its index is this name
abbrev pub is_clear : Bytes → Bytes → Bool
is_clear title name = not (same_name title name) && not (same_name (index_of title) name)

-- none of these tables takes the name of a later one, or that of its index
abbrev pub have_distinct_names : List Table → Bool
have_distinct_names [] = true
have_distinct_names (t ∷ ts) =
    list_all (λ u. is_clear t.name u.name && is_clear t.name (index_of u.name)) ts && have_distinct_names ts

-- the tables made in this order
abbrev pub all_created : Schema → List Table → Schema
all_created s [] = s
all_created s (t ∷ ts) = all_created (created s t) ts

-- where they are then, each with its tree
abbrev pub placed : Schema → List Table → List Table
placed s [] = []
placed s (t ∷ ts) = record t { tree = next_tree s } ∷ placed (created s t) ts

-- all but `meta`
abbrev pub other_tables : List Table
other_tables = object ∷ refs ∷ outs ∷ permanent ∷ user_root ∷ profile ∷ generation ∷ runtime ∷ piece ∷ temp_root ∷ []

-- all eleven made, and where all but `meta` are then
unfoldable pub store_tables_created : Schema → Schema
store_tables_created s = all_created s all_tables

unfoldable pub others_placed : Schema → List Table
others_placed s = placed (created s meta) other_tables

-- the two settings of a store directory
abbrev pub first_settings : Bytes → finite.FinMap texts_cmp Bytes
first_settings dir =
    finite.insert (finite.insert (finite.from_entries []) (codes "schema") (codes "3")) (codes "store-dir") dir

-- what the store's tables hold once they are made: the two settings, and nothing else
abbrev pub first_contents : Bytes → Contents
first_contents dir = record {
  meta = first_settings dir;
  objects = finite.from_entries [];
  refs = finite.from_entries [];
  outs = finite.from_entries [];
  permanent = finite.from_entries [];
  user_roots = finite.from_entries [];
  profiles = finite.from_entries [];
  generations = finite.from_entries [];
  runtime = finite.from_entries [];
  pieces = finite.from_entries [];
  temp_roots = finite.from_entries [];
}

-- the rows of `meta` say these, and are distinct; a directory whose bytes are UTF-8 can be read
pub record AreSettings (dir : Bytes) (rows : List Row) : Type 0 where
  pub keyed : IsKeyed rows
  pub readable : IsUtf8 dir → AreReadableRows meta rows
  pub settings : map_of texts_cmp is_pair pair_of rows ≡ first_settings dir

-- each table keeps its rows, also a frozen one, and the store's are as they are made
pub record IsMadeOf (dir : Bytes) (db : Database) (trees : Trees) : Type 0 where
  pub sound : IsDatabase (record { schema = store_tables_created db.schema; trees = trees })
  pub kept : AllByRecursion (λ t. trees t.tree ≡ db.trees t.tree) db.schema.tables
  pub settings : AreSettings dir (trees (next_tree db.schema))
  pub empty : AllByRecursion (λ t. trees t.tree ≡ []) (others_placed db.schema)
  pub frozen : IsDatabase db → KeepsFrozen db trees

-- All eleven were made at once, and the connection is ready: the store's hold the settings alone, and the others the
-- rows that they had, also where the schema doesn't show them.
pub record IsMade (dir : Bytes) (old new : State) : Type 0 where
  pub was_open : IsTrue old.is_open
  pub is_open : IsTrue new.is_open
  pub schema : new.now.schema ≡ store_tables_created old.now.schema
  pub contents : contents_of new.now ≡ first_contents dir
  pub foreign_rows : KeepsForeignRows old.now new.now
  pub frozen : SparesFrozen old.now new.now
  pub whole : IsWhole new.now
  pub readable : AreReadable (contents_of new.now)
  pub ready : IsReady new

-- What a crash may leave of the making, if it leaves any of it: all eleven tables are there, hold the settings alone,
-- and can be read, and those of other programs have the rows that they had.
pub record LeavesMade (dir : Bytes) (db : Database) (trees : Trees) : Type 0 where
  pub whole : IsWhole (record { schema = store_tables_created db.schema; trees = trees })
  pub readable : AreReadable (contents_of (record { schema = store_tables_created db.schema; trees = trees }))
  pub left : Leaves (record db { schema = store_tables_created db.schema }) trees (first_contents dir)

-- all eleven were made at once, as their trees have them
pub record IsMadeIn (dir : Bytes) (old new : State) : Type 0 where
  pub was_open : IsTrue old.is_open
  pub is_open : IsTrue new.is_open
  pub schema : new.now.schema ≡ store_tables_created old.now.schema
  pub sound : IsDatabase new.now
  pub made : IsMadeOf dir old.now new.now.trees
  pub settled : new.now ≡ new.committed

-- A transaction is under way over a schema that has none of these tables, and in which no foreign key waits for one.
-- The database obeys it.
pub record IsMaking (tables : List Table) (s : State) : Type 0 where
  pub sound : IsTrue s.is_open → IsDatabase s.now
  pub free : IsTrue s.is_open → AllByRecursion (λ t. IsFree s.now.schema t.name) tables
  pub counted : IsTrue s.is_open → lacks_sequence s.now.schema ≡ false
  pub mode : s.in_transaction ≡ true

-- Inside a transaction, which goes on: these tables were made after what was there, with no row.
pub record Makes (tables : List Table) (old new : State) : Type 0 where
  pub was_open : IsTrue old.is_open
  pub is_open : IsTrue new.is_open
  pub sound : IsDatabase new.now
  pub schema : new.now.schema ≡ all_created old.now.schema tables
  pub kept : AllByRecursion (λ t. new.now.trees t.tree ≡ old.now.trees t.tree) old.now.schema.tables
  pub empty : AllByRecursion (λ t. new.now.trees t.tree ≡ []) (placed old.now.schema tables)
  pub frozen : IsDatabase old.now → SparesFrozen old.now new.now
  pub committed : new.committed ≡ old.committed
  pub mode : new.in_transaction ≡ true

-- `meta` is made with its settings, inside a transaction that goes on; all else is kept.
pub record MakesMeta (dir : Bytes) (old new : State) : Type 0 where
  pub was_open : IsTrue old.is_open
  pub is_open : IsTrue new.is_open
  pub sound : IsDatabase new.now
  pub schema : new.now.schema ≡ created old.now.schema meta
  pub kept : AllByRecursion (λ t. new.now.trees t.tree ≡ old.now.trees t.tree) old.now.schema.tables
  pub settings : AreSettings dir (new.now.trees (next_tree old.now.schema))
  pub frozen : IsDatabase old.now → SparesFrozen old.now new.now
  pub committed : new.committed ≡ old.committed
  pub mode : new.in_transaction ≡ true

-- the rows of `meta` with one setting more, at the rowid after the last
pub record IsPut (word value : Bytes) (old new : List Row) : Type 0 where
  pub is : new ≡ put_row (Int (next_rowid old) ∷ Text word ∷ Text value ∷ []) old
  pub keyed : IsKeyed old → IsKeyed new
  pub readable : IsUtf8 word → IsUtf8 value → AreReadableRows meta old → AreReadableRows meta new
  pub put : finite.get (map_of texts_cmp is_pair pair_of old) word ≡ None
      → map_of texts_cmp is_pair pair_of new ≡ finite.insert (map_of texts_cmp is_pair pair_of old) word value

-- a transaction is under way over a schema in which `meta` is found by its name
pub record HasMeta (s : State) : Type 0 where
  pub named : IsTrue s.is_open
      → (at : ℕ) × IsNamed s.now.schema (codes "meta") at
      (record meta { tree = tree_named s.now.schema (codes "meta") })
  pub mode : s.in_transaction ≡ true

-- Inside a transaction, which goes on: `meta` has one row more.
pub record Puts (word value : Bytes) (old new : State) : Type 0 where
  pub was_open : IsTrue old.is_open
  pub is_open : IsTrue new.is_open
  pub sound : IsDatabase new.now
  pub schema : new.now.schema ≡ old.now.schema
  pub rows : IsPut word value (rows_named old.now (codes "meta")) (rows_named new.now (codes "meta"))
  pub others : AllByRecursion
      (λ t. t.tree ≢ tree_named old.now.schema (codes "meta")
      → new.now.trees t.tree ≡ old.now.trees t.tree) old.now.schema.tables
  pub frozen : IsDatabase old.now → SparesFrozen old.now new.now
  pub committed : new.committed ≡ old.committed
  pub mode : new.in_transaction ≡ true

-- Inside a transaction, which goes on: all eleven were made.
pub record MakesAll (dir : Bytes) (old new : State) : Type 0 where
  pub was_open : IsTrue old.is_open
  pub is_open : IsTrue new.is_open
  pub sound : IsDatabase new.now
  pub schema : new.now.schema ≡ store_tables_created old.now.schema
  pub made : IsMadeOf dir old.now new.now.trees
  pub committed : new.committed ≡ old.committed
  pub mode : new.in_transaction ≡ true

-- ---- why it fails

-- the directory is too long to be stored: the row of the setting would have more than a billion bytes, those of its two
-- texts and 18 for each of its three values
abbrev pub IsTooLong : Bytes → Type 0
IsTooLong dir = 10 ^ 9 < length dir + 63

-- The trees of these tables have no numbers: there are 65536, and each table takes two, one for itself and one for its
-- key's index.
abbrev pub RunsOutOfTrees : Schema → List Table → Type 0
RunsOutOfTrees s tables = 65536 < next_tree s + 2 * length tables

-- something of the schema has the name that the index of one of these tables would have
abbrev pub IsIndexNameUsed : Schema → List Table → Type 0
IsIndexNameUsed s tables = list_any (λ t. is_used s (index_of t.name)) tables ≡ true

-- Why these tables aren't made. A size is named for a row too large, where there may be one, and never of a connection
-- that an earlier fault had shut. The disk is named for a fault in this call, or that earlier one, and where a
-- statement is refused: for lack of numbers or names, or for a further reason, if there is one.
abbrev pub FailsToMakeThese : List Table → (large refused : Type 0) → State → State → Failed → Type 0
FailsToMakeThese tables large refused old new Memory = ⊤
FailsToMakeThese tables large refused old new Size = large × IsTrue old.is_open
FailsToMakeThese tables large refused old new Disk =
    HasDiskCause old new ⊎ (refused ⊎ (RunsOutOfTrees old.now.schema tables ⊎ IsIndexNameUsed old.now.schema tables))

-- Why all eleven aren't made: the store directory may be too long, and a limit on steps may stop the statement that
-- stores a setting.
abbrev pub FailsToMake : Bytes → State → State → Failed → Type 0
FailsToMake dir old new = FailsToMakeThese all_tables (IsTooLong dir) (IsSome old.step_limit) old new
