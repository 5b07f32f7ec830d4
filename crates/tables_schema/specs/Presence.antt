-- What a schema may have of the store's tables: the nine that each schema has, nothing at all, or anything else.
use Rattle.std.specs.Prelude.{◌≡◌, ℕ, ◌==◌, ◌^◌, nat_le, not, Bool, true, false, List, find, Some, None}
use Rattle.std.specs.List.{list_all, AllByRecursion}
use Rattle.sqlite_schema.specs.declared.schema.Schema.{Schema}
use Rattle.sqlite_schema.specs.declared.schema.Table.{Table}
use Rattle.sqlite_schema.specs.Names.{same_name, table_named, index_named, view_named}
use Rattle.sqlite.specs.Does.{lacks_sequence}
use Rattle.tables_schema.specs.Forms.{store_tables, further_tables, piece, temp_root}
use Rattle.tables_schema.specs.Intact.{IsIntact, HasTables, is_unreferred, is_unshared, is_unguarded}

-- the table has the form, and is found by its tree too, which is below the numbers that a query gives to tables of its
-- own
pub record HasForm (tables : List Table) (form found : Table) : Type 0 where
  pub same : found ≡ record form { tree = found.tree }
  pub by_tree : find (λ t. t.tree == found.tree) tables ≡ Some (record form { tree = found.tree })
  pub low : nat_le (2 ^ 31) found.tree ≡ false

-- nothing else acts on the table of this tree
pub record IsUnaffected (s : Schema) (name : List ℕ) (tree : ℕ) (key : List ℕ) : Type 0 where
  pub unreferred : is_unreferred s tree ≡ true
  pub idle : is_unshared s name tree ≡ true
  pub unguarded : is_unguarded s tree key ≡ true

-- the table is the store's: of the form, and left alone
pub record IsThis (s : Schema) (form found : Table) : Type 0 where
  pub has_form : HasForm s.tables form found
  pub unaffected : IsUnaffected s form.name found.tree form.primary

-- no foreign key waits for a table of the name
abbrev pub is_unawaited : Schema → List ℕ → Bool
is_unawaited s name = list_all (λ t. list_all (λ r. not (same_name r.parent name)) t.references) s.tables

-- nothing of the schema has the name, and nothing waits for it
pub record IsFree (s : Schema) (name : List ℕ) : Type 0 where
  pub table : table_named s name ≡ None
  pub index : index_named s name ≡ None
  pub view : view_named s name ≡ None
  pub unawaited : is_unawaited s name ≡ true

-- none of the store's names is in use, and a table that counts its rowids has its counter
pub record HasNone (s : Schema) : Type 0 where
  pub free : AllByRecursion (λ t. IsFree s t.name) store_tables
  pub further : AllByRecursion (λ t. IsFree s t.name) further_tables
  pub counted : lacks_sequence s ≡ false

-- the tables are those of the first schema, of the second, or of the third; the name of a table that the schema lacks
-- is free, and a table that counts its rowids has its counter, so that the rest can be made
abbrev pub HasFirst : Schema → Type 0
HasFirst s = HasTables s × IsFree s piece.name × IsFree s temp_root.name × (lacks_sequence s ≡ false)

abbrev pub HasSecond : Schema → Type 0
HasSecond s = HasTables s × IsIntact s piece × IsFree s temp_root.name × (lacks_sequence s ≡ false)

abbrev pub HasThird : Schema → Type 0
HasThird s = HasTables s × IsIntact s piece × IsIntact s temp_root
