-- Calls one after another.
use Rattle.std.proofs.Common.{◌≡◌, false, refl, sym, ap, subst, ◌∙◌, arith, IsTrue}
use Rattle.std.specs.List.{AllByRecursion}
use Rattle.sqlite_trees.specs.Tree.{Trees}
use Rattle.sqlite_trees.specs.Objects.{catalog_tree}
use Rattle.sqlite_trees.proofs.ListLemmas.{all_of, all_both}
use Rattle.sqlite_schema.specs.declared.schema.Schema.{Schema}
use Rattle.sqlite_schema.specs.declared.schema.Table.{Table}
use Rattle.sqlite.specs.Effect.{Database, IsDatabase}
use Rattle.sqlite.specs.State.{State, HasCleanDisk, KeepsCommit, Survives}
use Rattle.sqlite.proofs.StateLemmas.{survives_then, survives_weaker}
use Rattle.tables_schema.specs.Forms.{names_store_table}
use Rattle.tables_sql.specs.Contents.{Contents, contents_of}
use Rattle.tables_sql.specs.Frozen.{IsUnshown}
use Rattle.tables_sql.specs.Calls.{IsStoreDatabase, IsReady, IsUnderWay, KeepsForeignRows, Leaves, LeavesRows, Changes}
use Rattle.tables_sql.specs.Calls.{KeepsShown, KeepsFurther}
use Rattle.tables_sql.proofs.Frozen.{frozen_next, frozen_of, listed_of}

pub foreign_then : (a b c : Database) → b.schema ≡ a.schema → KeepsForeignRows a b → KeepsForeignRows b c
    → KeepsForeignRows a c
foreign_then a b c is h k =
    let foreign = λ (x y : Database) (t : Table). names_store_table t.name ≡ false → y.trees t.tree ≡ x.trees t.tree in
    all_both (foreign a b) (foreign b c) (foreign a c) (λ t p q other. q other ∙ p other) a.schema.tables h
    (subst (λ (s : Schema). AllByRecursion (foreign b c) s.tables) is k)

-- two changes in a row are one
pub changes_then : (a b c : State) (f g : Contents → Contents) → Changes a b f → Changes b c g
    → Changes a c (λ x. g (f x))
unfolding KeepsFurther
changes_then a b c f g h k = record {
  was_open = h.was_open;
  is_open = k.is_open;
  schema = k.schema ∙ h.schema;
  contents = k.contents ∙ ap g h.contents;
  foreign_rows = foreign_then a.now b.now c.now h.schema h.foreign_rows k.foreign_rows;
  unshown =
      λ tree hidden. k.unshown tree (subst (λ (s : Schema). IsUnshown s tree) (sym h.schema) hidden)
      ∙ h.unshown tree hidden;
  of_store = k.of_store;
  further = (λ present. k.further.0 (h.further.0 present), (λ present. k.further.1.0 (h.further.1.0 present), tt));
  committed = k.committed ∙ h.committed;
  mode = k.mode;
  marks = k.marks ∙ h.marks;
}

-- one change in other words
pub changes_to : (a b : State) (f g : Contents → Contents) → contents_of b.now ≡ g (contents_of a.now) → Changes a b f
    → Changes a b g
changes_to a b f g same h = record {
  was_open = h.was_open;
  is_open = h.is_open;
  schema = h.schema;
  contents = same;
  foreign_rows = h.foreign_rows;
  unshown = h.unshown;
  of_store = h.of_store;
  further = h.further;
  committed = h.committed;
  mode = h.mode;
  marks = h.marks;
}

pub changes_by : (a b : State) (f g : Contents → Contents) → ((c : Contents) → f c ≡ g c) → Changes a b f
    → Changes a b g
changes_by a b f g same h = changes_to a b f g (h.contents ∙ same (contents_of a.now)) h

-- no change is a change
pub changes_none : (s : State) → IsUnderWay s → IsTrue s.is_open → Changes s s (λ c. c)
unfolding KeepsFurther
changes_none s under is_open = record {
  was_open = is_open;
  is_open = is_open;
  schema = refl;
  contents = refl;
  foreign_rows =
      all_of (λ (t : Table). names_store_table t.name ≡ false → s.now.trees t.tree ≡ s.now.trees t.tree)
      (λ t other. refl) s.now.schema.tables;
  unshown = λ tree hidden. refl;
  of_store = under.of_store is_open;
  further = (λ present. present, (λ present. present, tt));
  committed = refl;
  mode = under.mode;
  marks = refl;
}

-- after a change the transaction goes on
pub under_after : (a b : State) (f : Contents → Contents) → Changes a b f → IsUnderWay b
under_after a b f h = record { of_store = λ _. h.of_store; mode = h.mode }

-- what was changed and then failed keeps the last commit
pub keeps_after : (a b c : State) (f : Contents → Contents) → Changes a b f → KeepsCommit b c → KeepsCommit a c
keeps_after a b c f h k =
    record { was_open = λ _. h.was_open; committed = λ is_open. k.committed is_open ∙ h.committed }

-- after a read, whether it was done or failed, a connection that was ready is
pub ready_after : (a b : State) → (IsTrue a.is_open → IsReady a) → KeepsShown a b → IsTrue b.is_open → IsReady b
ready_after a b ready h is_open =
    let was = ready (h.was_open is_open) in
    record {
      of_store = subst IsStoreDatabase (sym (h.now is_open)) was.of_store;
      settled = h.now is_open ∙ was.settled ∙ sym (h.committed is_open);
    }

-- two reads in a row
pub shown_then : (a b c : State) → KeepsShown a b → KeepsShown b c → KeepsShown a c
shown_then a b c h k = record {
  was_open = λ is_open. h.was_open (k.was_open is_open);
  now = λ is_open. k.now is_open ∙ h.now (k.was_open is_open);
  committed = λ is_open. k.committed is_open ∙ h.committed (k.was_open is_open);
}

-- ---- what a crash leaves of a commit

leaves_now : (d : Database) (db : Trees) → db ≡ d.trees → Leaves d db (contents_of d)
leaves_now d db is =
    subst (λ (trees : Trees). Leaves d trees (contents_of d)) (sym is)
    (record {
      of_store = refl;
      foreign_rows =
          all_of (λ (t : Table). names_store_table t.name ≡ false → d.trees t.tree ≡ d.trees t.tree) (λ t other. refl)
          d.schema.tables;
      frozen = record {
        rows = λ tree is. refl;
        texts = λ row present foreign. present;
        version = refl;
      };
    })

pub leaves_by : (old new : State) → Survives old new (λ db. db ≡ old.now.trees)
    → Survives old new (λ db. Leaves old.now db (contents_of old.now))
leaves_by old new h = survives_weaker old new _ _ (λ clean db is. leaves_now old.now db is) h

-- ---- a whole transaction

-- what a crash leaves of the changed tables, seen from those before the change
pub leaves_from : (a b : State) (f : Contents → Contents) (db : Trees) → IsDatabase a.now → Changes a b f
    → Leaves b.now db (contents_of b.now) → Leaves a.now db (f (contents_of a.now))
leaves_from a b f db sound h l = record {
  of_store =
      subst (λ (s : Schema). contents_of (record a.now { schema = s; trees = db }) ≡ f (contents_of a.now)) h.schema
      (l.of_store ∙ h.contents);
  foreign_rows = foreign_then a.now b.now (record a.now { trees = db }) h.schema h.foreign_rows l.foreign_rows;
  frozen = frozen_next a.now b.now db h.schema (frozen_of a.now b.now.trees sound h.unshown) l.frozen;
}

-- the disk was clean before a call, if it is after it
pub clean_before : (a b : State) (P : Trees → Type 0) → Survives a b P → HasCleanDisk b → HasCleanDisk a
clean_before a b P h clean = omega (arith, h.clean, clean)

-- what a crash leaves of a commit of the change
rows_left : (a b : State) (f : Contents → Contents) (db : Trees) → IsDatabase a.now → Changes a b f → db ≡ b.now.trees
    → LeavesRows a.now db (f (contents_of a.now))
rows_left a b f db sound h is =
    record {
      rows = leaves_from a b f db sound h (leaves_now b.now db is);
      listed = ap (λ (trees : Trees). trees catalog_tree) is ∙ listed_of a.now b.now.trees sound h.unshown;
    }

-- a crash leaves what it could leave before the transaction, or all that it changed, which only an open connection
-- commits
pub survives_whole : (a b c : State) (f : Contents → Contents) → (HasCleanDisk a → IsUnderWay a)
    → (HasCleanDisk b → Changes a b f) → Survives a b (λ _. ⊥) → Survives b c (λ db. db ≡ b.now.trees)
    → Survives a c (λ db. IsTrue a.is_open × LeavesRows a.now db (f (contents_of a.now)))
survives_whole a b c f under h before after =
    survives_then a b c (λ _. ⊥) _ (λ db. IsTrue a.is_open × LeavesRows a.now db (f (contents_of a.now)))
    (λ clean db none. absurd none) (λ clean db is.
    let clean_b = clean_before b c _ after clean in
    let changes = h clean_b in (
      changes.was_open,
      rows_left a b f db ((under (clean_before a b _ before clean_b)).of_store changes.was_open).sound
          changes is,
    )) before after
