-- A transaction that makes further tables and then changes what the store's tables hold, seen from before it: what a
-- crash leaves of it.
use Rattle.std.proofs.Common.{◌≡◌, List, true, false, sym, ap, subst, ◌∙◌, IsTrue}
use Rattle.std.specs.List.{AllByRecursion}
use Rattle.sqlite_trees.specs.Tree.{Trees}
use Rattle.sqlite_trees.proofs.ListLemmas.{all-append, all_weaker}
use Rattle.sqlite_schema.specs.declared.schema.Schema.{Schema}
use Rattle.sqlite_schema.specs.declared.schema.Table.{Table}
use Rattle.sqlite.specs.State.{State, HasCleanDisk, Survives}
use Rattle.sqlite.proofs.StateLemmas.{survives_then}
use Rattle.tables_schema.specs.Forms.{names_store_table}
use Rattle.tables_sql.specs.Contents.{Contents, contents_of}
use Rattle.tables_sql.specs.Frozen.{IsFrozen}
use Rattle.tables_sql.specs.Calls.{Changes, KeepsForeignRows, Leaves}
use Rattle.tables_sql.proofs.Steps.{foreign_then, leaves_from, clean_before}
use Rattle.tables_make.specs.NewTables.{placed}
use Rattle.tables_make.specs.Further.{MakesFurther, grown}
use Rattle.tables_make.proofs.Creates.{tables_after}
use Rattle.tables_make.proofs.FrozenThen.{frozen_before}

module _ (tables : List Table) (named : (s : Schema)
    → AllByRecursion (λ t. names_store_table t.name ≡ true) (placed s tables)) where
  -- the tables that were made are the store's, and theirs keep their rows
  pub foreign_grown : (a b : State) → MakesFurther tables a b → KeepsForeignRows (grown tables a.now) b.now
  foreign_grown a b h =
      subst (AllByRecursion (λ (t : Table). names_store_table t.name ≡ false → b.now.trees t.tree ≡ a.now.trees t.tree))
      (sym (tables_after a.now.schema tables))
      (all-append (λ (t : Table). names_store_table t.name ≡ false → b.now.trees t.tree ≡ a.now.trees t.tree)
      a.now.schema.tables _ h.foreign_rows
      (all_weaker (λ (t : Table). names_store_table t.name ≡ true)
      (λ t. names_store_table t.name ≡ false → b.now.trees t.tree ≡ a.now.trees t.tree)
      (λ t of_store other. absurd (let e = sym of_store ∙ other in cc)) (placed a.now.schema tables)
      (named a.now.schema)))

  -- what a crash leaves of the changed tables, seen from before the further ones were made
  pub leaves_grown : (a b c : State) (f : Contents → Contents) (db : Trees) → MakesFurther tables a b → Changes b c f
      → Leaves c.now db (contents_of c.now) → Leaves (grown tables a.now) db (f (contents_of a.now))
  leaves_grown a b c f db h k l =
      let left = leaves_from b c f db h.of_store.sound k l in
      record {
        of_store =
            subst (λ (s : Schema). contents_of (record b.now { schema = s; trees = db }) ≡ f (contents_of b.now))
            h.schema left.of_store ∙ ap f h.contents;
        foreign_rows =
            foreign_then (grown tables a.now) b.now (record b.now { trees = db }) h.schema (foreign_grown a b h)
            left.foreign_rows;
        frozen = record {
          rows =
              λ tree is. left.frozen.rows tree (subst (λ (s : Schema). IsFrozen s tree) (sym h.schema) is)
              ∙ h.frozen.rows tree (frozen_before a.now.schema tables tree is);
          texts = λ row present foreign. left.frozen.texts row (h.frozen.texts row present foreign) foreign;
          version = left.frozen.version ∙ h.frozen.version;
        };
      }

  -- a crash leaves what it could leave before the transaction, or all of it at once: the further tables, and what was
  -- changed
  pub survives_grown : (a b c d : State) (f : Contents → Contents) → (HasCleanDisk b → MakesFurther tables a b)
      → (HasCleanDisk c → Changes b c f) → Survives a b (λ _. ⊥) → Survives b c (λ _. ⊥)
      → Survives c d (λ db. Leaves c.now db (contents_of c.now))
      → Survives a d (λ db. IsTrue a.is_open × Leaves (grown tables a.now) db (f (contents_of a.now)))
  survives_grown a b c d f makes changes first next last =
      survives_then a c d (λ _. ⊥) _ (λ db. IsTrue a.is_open × Leaves (grown tables a.now) db (f (contents_of a.now)))
      (λ clean db none. absurd none)
      (λ clean db l.
      let clean_c = clean_before c d _ last clean in
      let made = makes (clean_before b c _ next clean_c) in
      (made.was_open, leaves_grown a b c f db made (changes clean_c) l))
      (survives_then a b c (λ _. ⊥) (λ _. ⊥) (λ _. ⊥) (λ clean db none. absurd none) (λ clean db none. absurd none)
      first next) last
