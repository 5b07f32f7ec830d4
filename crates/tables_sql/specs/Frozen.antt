-- What a schema doesn't show: the tables that SQL here doesn't understand, which are in the file and in the list of
-- objects.
use Rattle.std.specs.Prelude.{◌≡◌, ◌≢◌, ℕ, false, IsSome}
use Rattle.std.specs.List.{AllByRecursion}
use Rattle.sqlite_trees.specs.Tree.{Trees}
use Rattle.sqlite_trees.specs.Objects.{catalog_tree, version_tree}
use Rattle.sqlite_schema.specs.declared.schema.Schema.{Schema}
use Rattle.sqlite_schema.specs.declared.schema.View.{View as Stored}
use Rattle.sqlite_rules.specs.Lists.{Has}
use Rattle.sqlite_catalog.specs.Calls.{KeepsForeign}
use Rattle.sqlite.specs.Effect.{Database}

-- no table and no index that the schema shows has this tree
abbrev pub IsUnshown : Schema → ℕ → Type 0
IsUnshown s tree = AllByRecursion (λ t. t.tree ≢ tree) s.tables × AllByRecursion (λ i. i.tree ≢ tree) s.indexes

-- Each tree that the schema doesn't show is as it was: those of frozen tables and of all their indexes, the list of
-- objects, and the user version.
abbrev pub KeepsUnshown : Database → Trees → Type 0
KeepsUnshown old trees = (tree : ℕ) → IsUnshown old.schema tree → trees tree ≡ old.trees tree

-- The tree is that of a frozen table, or of an index of one whose text is understood, and of nothing else.
pub record IsFrozen (s : Schema) (tree : ℕ) : Type 0 where
  pub object : Stored
  pub exists : Has s.views object
  pub its : object.tree ≡ tree
  pub aside : AllByRecursion (λ w. w.tree ≡ tree → IsSome w.foreign × (w.binds ≡ false)) s.views
  pub unshown : IsUnshown s tree

-- Frozen tables keep their rows, the list of objects still has them and the triggers with their texts, and the user
-- version is as it was.
pub record KeepsFrozen (old : Database) (trees : Trees) : Type 0 where
  pub rows : (tree : ℕ) → IsFrozen old.schema tree → trees tree ≡ old.trees tree
  pub texts : KeepsForeign (old.trees catalog_tree) (trees catalog_tree)
  pub version : trees version_tree ≡ old.trees version_tree

-- from one database to another, all that the schema of the first doesn't show stays
abbrev pub SparesUnshown : Database → Database → Type 0
SparesUnshown old new = KeepsUnshown old new.trees

-- what frozen tables hold stays
abbrev pub SparesFrozen : Database → Database → Type 0
SparesFrozen old new = KeepsFrozen old new.trees
