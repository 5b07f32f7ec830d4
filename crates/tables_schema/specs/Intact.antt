-- The store's tables in a schema that may hold those of other programs, before them, after them or between them.
use Rattle.std.specs.Prelude.{◌≡◌, ℕ, ◌==◌, ◌^◌, nat_le, not, ◌||◌, ◌&&◌, Bool, true, false, List, find, slice_get}
use Rattle.std.specs.Prelude.{Some, option_map, option_and_then, unwrap_or, bytes_eq}
use Rattle.std.specs.List.{list_all, AllByRecursion}
use Rattle.sqlite_schema.specs.declared.schema.Schema.{Schema}
use Rattle.sqlite_schema.specs.declared.schema.Table.{Table}
use Rattle.sqlite_schema.specs.declared.schema.Reference.{Reference}
use Rattle.sqlite_schema.specs.Names.{table_named}
use Rattle.tables_schema.specs.Forms.{store_tables}

-- the first table of the name is this one, at this place
abbrev pub IsNamed : Schema → List ℕ → ℕ → Table → Type 0
IsNamed s name at table = (table_named s name ≡ Some at) × (slice_get s.tables at ≡ Some table)

-- the table is found by its tree too, which is below the numbers that a query gives to tables of its own
pub record IsKnown (s : Schema) (name : List ℕ) (at : ℕ) (table : Table) : Type 0 where
  pub named : IsNamed s name at table
  pub by_tree : find (λ t. t.tree == table.tree) s.tables ≡ Some table
  pub low : nat_le (2 ^ 31) table.tree ≡ false

-- the reference finds a table with this tree
abbrev pub points_at : Schema → ℕ → Reference → Bool
points_at s tree r =
    unwrap_or (option_map (λ p. p.tree == tree) (option_and_then (slice_get s.tables) (table_named s r.parent))) false

-- no foreign key refers to the table
abbrev pub is_unreferred : Schema → ℕ → Bool
is_unreferred s tree = list_all (λ t. list_all (λ r. not (points_at s tree r)) t.references) s.tables

-- no table of another name has the tree
abbrev pub is_unshared : Schema → List ℕ → ℕ → Bool
is_unshared s name tree = list_all (λ t. not (t.tree == tree) || bytes_eq t.name name) s.tables

-- no unique index keeps rows out of the table but that of the key, which compares bytes
abbrev pub is_unguarded : Schema → ℕ → List ℕ → Bool
is_unguarded s tree key =
    list_all (λ i. not (i.is_unique && (i.table == tree))
    || (bytes_eq i.columns key && (i.order.digits == 0))) s.indexes

-- the tree of the first table of a name; 0, which is no table's tree, where no table has that name
abbrev pub tree_named : Schema → List ℕ → ℕ
tree_named s name = unwrap_or (option_map (λ t. t.tree) (option_and_then (slice_get s.tables) (table_named s name))) 0

-- a table of the store's is somewhere in the schema in exactly its form, and nothing else acts on it
pub record IsIntact (s : Schema) (table : Table) : Type 0 where
  pub at : ℕ
  pub known : IsKnown s table.name at (record table { tree = tree_named s table.name })
  pub unreferred : is_unreferred s (tree_named s table.name) ≡ true
  pub idle : is_unshared s table.name (tree_named s table.name) ≡ true
  pub unguarded : is_unguarded s (tree_named s table.name) table.primary ≡ true

-- all nine are there
abbrev pub HasTables : Schema → Type 0
HasTables s = AllByRecursion (IsIntact s) store_tables
