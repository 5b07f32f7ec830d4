-- A transaction that makes further tables and then changes what the store's hold, and what its commit or a crash leaves
-- of that.
use Rattle.std.proofs.Common.{◌≡◌, List, [], ◌∷◌, false, true, Result, Ok, Err, refl, sym, ap, subst, ◌∙◌, IsTrue}
use Rattle.std.specs.Prelude.{OnOk, OnErr}
use Rattle.std.specs.List.{AllByRecursion}
use Rattle.sqlite_trees.specs.declared.store.Store.{Ghosts}
use Rattle.sqlite_trees.specs.Tree.{Trees}
use Rattle.sqlite_trees.proofs.ListLemmas.{all_weaker}
use Rattle.sqlite_schema.specs.declared.schema.Schema.{Schema}
use Rattle.sqlite_schema.specs.declared.schema.Table.{Table}
use Rattle.sqlite.specs.Effect.{Database}
use Rattle.sqlite.specs.State.{State, HasCleanDisk, IsUnchanged, KeepsCommit, Survives}
use Rattle.sqlite.specs.Held.{Held, state}
use Rattle.sqlite.proofs.StateLemmas.{survives_then}
use Rattle.tables_schema.specs.Forms.{piece, temp_root, names_store_table}
use Rattle.tables_sql.specs.Contents.{Contents, contents_of}
use Rattle.tables_sql.specs.Frozen.{IsFrozen, SparesFrozen}
use Rattle.tables_sql.specs.Calls.{HasFurther, KeepsFurther, KeepsForeignRows, IsUnderWay, Changes, IsCommitted}
use Rattle.tables_sql.specs.Calls.{IsWhole, KeepsShown, Leaves}
use Rattle.tables_sql.proofs.Frozen.{frozen_of}
use Rattle.tables_sql.proofs.Lists.{one_list, two_lists}
use Rattle.tables_sql.proofs.Steps.{foreign_then, clean_before, shown_then}
use Rattle.tables_sql.proofs.Transactions.{survives_begun}
use Rattle.tables_sql.proofs.Under.{piece_after, temp_root_after}
use Rattle.tables_make.specs.NewTables.{all_created, placed}
use Rattle.tables_make.specs.Further.{MakesFurther, grown}
use Rattle.tables_make.proofs.Creates.{tables_after}
use Rattle.tables_make.proofs.FrozenThen.{frozen_then, frozen_before}
use Rattle.tables_make.specs.Migrated.{Grows, IsGrown}

-- ---- inside the transaction

module _ (tables : List Table) (a b c : State) (f : Contents → Contents) (made : MakesFurther tables a b)
    (changed : Changes b c f) where
  foreign_still : KeepsForeignRows a.now c.now
  foreign_still =
      let P : Table → Type 0 = λ t. names_store_table t.name ≡ false → c.now.trees t.tree ≡ b.now.trees t.tree in
      let all =
      subst (λ (ts : List Table). AllByRecursion P ts)
      (ap (λ (s : Schema). s.tables) made.schema ∙ tables_after a.now.schema tables) changed.foreign_rows in
      foreign_then a.now (record b.now { schema = a.now.schema }) c.now refl made.foreign_rows
      (one_list P a.now.schema.tables (placed a.now.schema tables) all).0

  pub grows : HasFurther b.now piece → HasFurther b.now temp_root → Grows tables (f (contents_of a.now)) a c
  grows pieces temp_roots = record {
    was_open = made.was_open;
    is_open = changed.is_open;
    schema = changed.schema ∙ made.schema;
    contents_are = changed.contents ∙ ap f made.contents;
    foreign_rows = foreign_still;
    frozen =
        frozen_then a.now b.now c.now.trees tables made.schema made.frozen
        (frozen_of b.now c.now.trees made.of_store.sound changed.unshown);
    whole =
        record {
          of_store = changed.of_store;
          pieces = piece_after b c f changed pieces;
          temp_roots = temp_root_after b c f changed temp_roots;
        };
    committed = changed.committed ∙ made.committed;
    mode = changed.mode;
  }

pub pieces_still : (tables : List Table) (a b : State) → MakesFurther tables a b → HasFurther a.now piece
    → HasFurther b.now piece
unfolding KeepsFurther
pieces_still tables a b made present = made.further.0 present

pub makes_under : (tables : List Table) (a b : State) → MakesFurther tables a b → IsUnderWay b
makes_under tables a b made = record { of_store = λ _. made.of_store; mode = made.mode }

pub grows_under : (tables : List Table) (contents : Contents) (a b : State) → Grows tables contents a b → IsUnderWay b
grows_under tables contents a b h = record { of_store = λ _. h.whole.of_store; mode = h.mode }

-- ---- what its commit leaves

pub is_grown : (tables : List Table) (contents : Contents) (a b c : State) → Grows tables contents a b → IsCommitted b c
    → IsGrown tables contents a c
is_grown tables contents a b c h k = record {
  was_open = h.was_open;
  is_open = k.is_open;
  schema = ap (λ (x : Database). x.schema) k.now ∙ h.schema;
  contents_are = ap contents_of k.now ∙ h.contents_are;
  foreign_rows = subst (λ (x : Database). KeepsForeignRows a.now x) (sym k.now) h.foreign_rows;
  frozen = subst (λ (x : Database). SparesFrozen a.now x) (sym k.now) h.frozen;
  whole = subst IsWhole (sym k.now) h.whole;
  ready = k.ready;
}

-- the same, seen from before a read
pub grown_from : (tables : List Table) (contents : Contents) (a b c : State) → IsUnchanged a b
    → IsGrown tables contents b c → IsGrown tables contents a c
grown_from tables contents a b c same h = record {
  was_open = same.0.was_open;
  is_open = h.is_open;
  schema = h.schema ∙ ap (λ (x : Database). all_created x.schema tables) same.0.now_is;
  contents_are = h.contents_are;
  foreign_rows = subst (λ (x : Database). KeepsForeignRows x c.now) same.0.now_is h.foreign_rows;
  frozen = subst (λ (x : Database). SparesFrozen x c.now) same.0.now_is h.frozen;
  whole = h.whole;
  ready = h.ready;
}

pub grown_as : (tables : List Table) (x y : Contents) (a b : State) → x ≡ y → IsGrown tables x a b
    → IsGrown tables y a b
grown_as tables x y a b is h = subst (λ (z : Contents). IsGrown tables z a b) is h

-- ---- what a crash leaves

-- the tables that are made are the store's
pub both_named : (s : Schema) → AllByRecursion (λ t. names_store_table t.name ≡ true)
    (placed s (piece ∷ temp_root ∷ []))
both_named s = (refl, (refl, tt))

pub last_named : (s : Schema) → AllByRecursion (λ t. names_store_table t.name ≡ true) (placed s (temp_root ∷ []))
last_named s = (refl, tt)

module _ (tables : List Table) (named : (s : Schema)
    → AllByRecursion (λ t. names_store_table t.name ≡ true) (placed s tables)) (contents : Contents) where
  foreign_grown : (a b : State) → Grows tables contents a b → KeepsForeignRows (grown tables a.now) b.now
  foreign_grown a b h =
      let P : Table → Type 0 = λ t. names_store_table t.name ≡ false → b.now.trees t.tree ≡ a.now.trees t.tree in
      subst (λ (ts : List Table). AllByRecursion P ts) (sym (tables_after a.now.schema tables))
      (two_lists P a.now.schema.tables (placed a.now.schema tables) h.foreign_rows
      (all_weaker (λ (t : Table). names_store_table t.name ≡ true) P
      (λ t of_store other. absurd (let e = sym of_store ∙ other in cc)) (placed a.now.schema tables)
      (named a.now.schema)))

  leaves_grown : (a b : State) (db : Trees) → Grows tables contents a b → Leaves b.now db (contents_of b.now)
      → Leaves (grown tables a.now) db contents
  leaves_grown a b db h l = record {
    of_store =
        subst (λ (s : Schema). contents_of (record b.now { schema = s; trees = db }) ≡ contents_of b.now) h.schema
        l.of_store ∙ h.contents_are;
    foreign_rows =
        foreign_then (grown tables a.now) b.now (record b.now { trees = db }) h.schema (foreign_grown a b h)
        l.foreign_rows;
    frozen = record {
      rows =
          λ tree is. l.frozen.rows tree (subst (λ (s : Schema). IsFrozen s tree) (sym h.schema) is)
          ∙ h.frozen.rows tree (frozen_before a.now.schema tables tree is);
      texts = λ row present foreign. l.frozen.texts row (h.frozen.texts row present foreign) foreign;
      version = l.frozen.version ∙ h.frozen.version;
    };
  }

  survives_inside : (a b c : State) → (HasCleanDisk b → Grows tables contents a b) → Survives a b (λ _. ⊥)
      → Survives b c (λ db. Leaves b.now db (contents_of b.now))
      → Survives a c (λ db. Leaves (grown tables a.now) db contents)
  survives_inside a b c h first last =
      survives_then a b c (λ _. ⊥) (λ db. Leaves b.now db (contents_of b.now))
      (λ db. Leaves (grown tables a.now) db contents) (λ clean db none. absurd none)
      (λ clean db l. leaves_grown a b db (h (clean_before b c (λ db. Leaves b.now db (contents_of b.now)) last clean))
      l) first last

-- the whole transaction, from before it was begun
pub survives_whole : {S : Type 0} (g : Ghosts S) (conn start : Held S) (tables : List Table)
    (named : (s : Schema) → AllByRecursion (λ t. names_store_table t.name ≡ true) (placed s tables))
    (f : Contents → Contents) (b c : State) → start ≡ record conn { in_transaction = true }
    → (HasCleanDisk b → Grows tables (f (contents_of (state g start).now)) (state g start) b)
    → Survives (state g start) b (λ _. ⊥) → Survives b c (λ db. Leaves b.now db (contents_of b.now))
    → Survives (state g conn) c (λ db. Leaves (grown tables (state g conn).now) db (f (contents_of (state g conn).now)))
survives_whole {S} g conn start tables named f b c is h first last =
    survives_begun g conn c _ (subst
    (λ (x : Held S). Survives (state g x) c
    (λ db. Leaves (grown tables (state g x).now) db (f (contents_of (state g x).now)))) is
    (survives_inside tables named (f (contents_of (state g start).now)) (state g start) b c h first last))

-- what is reported of a result, in other words
pub on_done : {A E : Type 0} (r : Result A E) (P Q : Type 0) → (P → Q) → OnOk r P → OnOk r Q
on_done (Ok v) P Q f h = f h
on_done (Err e) P Q f h = h

-- what keeps the last commit, one after another
pub keeps_then : {A E : Type 0} (r : Result A E) (a b c : State) → KeepsCommit a b → OnErr r (KeepsCommit b c)
    → OnErr r (KeepsCommit a c)
keeps_then (Ok v) a b c h k = k
keeps_then (Err e) a b c h k =
    record {
      was_open = λ is_open. h.was_open (k.was_open is_open);
      committed = λ is_open. k.committed is_open ∙ h.committed (k.was_open is_open);
    }

-- what was committed, from before the transaction was begun
grown_begun : {S : Type 0} (g : Ghosts S) (conn : Held S) (tables : List Table) (contents : Contents) (c : State)
    → IsGrown tables contents (state g (record conn { in_transaction = true })) c
    → IsGrown tables contents (state g conn) c
grown_begun g conn tables contents c h =
    record {
      was_open = h.was_open;
      is_open = h.is_open;
      schema = h.schema;
      contents_are = h.contents_are;
      foreign_rows = h.foreign_rows;
      frozen = h.frozen;
      whole = h.whole;
      ready = h.ready;
    }

pub grown_whole : {S : Type 0} (g : Ghosts S) (conn start : Held S) (tables : List Table) (f : Contents → Contents)
    (b c : State) → start ≡ record conn { in_transaction = true }
    → Grows tables (f (contents_of (state g start).now)) (state g start) b → IsCommitted b c
    → IsGrown tables (f (contents_of (state g conn).now)) (state g conn) c
grown_whole {S} g conn start tables f b c is h k =
    grown_begun g conn tables (f (contents_of (state g conn).now)) c
    (subst (λ (x : Held S). IsGrown tables (f (contents_of (state g x).now)) (state g x) c) is
    (is_grown tables (f (contents_of (state g start).now)) (state g start) b c h k))

-- what is so of a connection is so where a transaction was begun
pub begun_has : {S : Type 0} (g : Ghosts S) (conn start : Held S) (P : Database → Type 0)
    → start ≡ record conn { in_transaction = true }
    → (HasCleanDisk (state g conn) → IsTrue (state g conn).is_open → P (state g conn).now)
    → HasCleanDisk (state g start) → IsTrue (state g start).is_open → P (state g start).now
begun_has {S} g conn start P is h =
    subst (λ (x : Held S). HasCleanDisk (state g x) → IsTrue (state g x).is_open → P (state g x).now) (sym is) h

-- what a call shows that failed after another
pub shown_err : {A E : Type 0} (r : Result A E) (a b c : State) → KeepsShown a b → OnErr r (KeepsShown b c)
    → OnErr r (KeepsShown a c)
shown_err (Ok v) a b c h k = k
shown_err (Err e) a b c h k = shown_then a b c h k
