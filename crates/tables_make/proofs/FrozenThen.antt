-- What is frozen stays so while tables are made.
use Rattle.std.proofs.Common.{◌≡◌, ◌≢◌, ◌<◌, ◌+◌, ℕ, List, [], ◌∷◌, sym, subst, arith}
use Rattle.std.specs.List.{AllByRecursion}
use Rattle.sqlite_trees.specs.Tree.{Trees}
use Rattle.sqlite_schema.specs.declared.schema.Schema.{Schema}
use Rattle.sqlite_schema.specs.declared.schema.Table.{Table}
use Rattle.sqlite_schema.specs.declared.schema.Index.{Index}
use Rattle.sqlite_catalog.specs.Change.{created, next_tree, automatics}
use Rattle.sqlite_catalog.proofs.StepLemmas.{view_below}
use Rattle.sqlite.specs.Effect.{Database}
use Rattle.tables_sql.specs.Frozen.{IsFrozen, KeepsFrozen}
use Rattle.tables_make.specs.NewTables.{all_created}
use Rattle.tables_sql.proofs.Lists.{one_list, two_lists}
use Rattle.tables_sql.proofs.Frozen.{frozen_both}

automatics_distinct : (table : Table) (at tree : ℕ) (keys : List (List ℕ)) (t : ℕ) → t < tree
    → AllByRecursion (λ (i : Index). i.tree ≢ t) (automatics table at tree keys)
automatics_distinct table at tree [] t h = tt
automatics_distinct table at tree (key ∷ keys) t h = (
  λ (e : tree ≡ t). absurd (omega (arith, h, e)),
  automatics_distinct table (at + 1) (tree + 1) keys t (omega (arith, h)),
)

-- what is frozen has a tree below the next
below_next : (s : Schema) (tree : ℕ) → IsFrozen s tree → tree < next_tree s
below_next s tree is = omega (arith, view_below s is.object is.exists, is.its)

still_one : (s : Schema) (t : Table) (tree : ℕ) → IsFrozen s tree → IsFrozen (created s t) tree
still_one s t tree is =
    let below = below_next s tree is in
    let new : Table = record t { tree = next_tree s } in
    record {
      object = is.object;
      exists = is.exists;
      its = is.its;
      aside = is.aside;
      unshown = (
        two_lists (λ (u : Table). u.tree ≢ tree) s.tables (new ∷ []) is.unshown.0
            (λ (e : next_tree s ≡ tree). absurd (omega (arith, below, e)), tt),
        two_lists (λ (i : Index). i.tree ≢ tree) s.indexes _ is.unshown.1
            (automatics_distinct new 0 (next_tree s + 1) t.uniques tree (omega (arith, below))),
      );
    }

still : (s : Schema) (ts : List Table) (tree : ℕ) → IsFrozen s tree → IsFrozen (all_created s ts) tree
still s [] tree is = is
still s (t ∷ ts) tree is = still (created s t) ts tree (still_one s t tree is)

-- and was frozen before
pub frozen_before : (s : Schema) (ts : List Table) (tree : ℕ) → IsFrozen (all_created s ts) tree → IsFrozen s tree
frozen_before s [] tree is = is
frozen_before s (t ∷ ts) tree is =
    let up = frozen_before (created s t) ts tree is in
    record {
      object = up.object;
      exists = up.exists;
      its = up.its;
      aside = up.aside;
      unshown = (
        (one_list (λ (u : Table). u.tree ≢ tree) s.tables _ up.unshown.0).0,
        (one_list (λ (i : Index). i.tree ≢ tree) s.indexes _ up.unshown.1).0,
      );
    }

-- two in a row keep it, of which the first may make tables
pub frozen_then : (a b : Database) (trees : Trees) (ts : List Table) → b.schema ≡ all_created a.schema ts
    → KeepsFrozen a b.trees → KeepsFrozen b trees → KeepsFrozen a trees
frozen_then a b trees ts made =
    frozen_both a b trees (λ tree is. subst (λ (s : Schema). IsFrozen s tree) (sym made) (still a.schema ts tree is))
