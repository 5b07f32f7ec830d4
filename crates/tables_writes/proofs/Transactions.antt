-- Writes inside a transaction, one after another and in other words.
use Rattle.std.proofs.Common.{◌≡◌, Result, Ok, Err, refl, false, subst, sym, ap, ◌∙◌, true, arith, IsTrue}
use Rattle.std.specs.Prelude.{OnOk}
use Rattle.sqlite_trees.specs.declared.store.Store.{Ghosts}
use Rattle.sqlite_trees.specs.Tree.{Trees}
use Rattle.sqlite_trees.proofs.ListLemmas.{all_of}
use Rattle.sqlite_schema.specs.declared.schema.Schema.{Schema}
use Rattle.sqlite_schema.specs.declared.schema.Table.{Table}
use Rattle.sqlite.specs.Effect.{Database}
use Rattle.sqlite.specs.State.{State, HasCleanDisk, Survives}
use Rattle.sqlite.specs.Held.{Held, state}
use Rattle.tables_sql.specs.Contents.{Contents, contents_of}
use Rattle.tables_schema.specs.Forms.{piece, temp_root, names_store_table}
use Rattle.tables_sql.specs.Frozen.{IsFrozen, SparesUnshown}
use Rattle.tables_sql.specs.Calls.{HasFurther, IsReady, IsUnderWay, IsWhole, IsCommitted, KeepsForeignRows, Changes}
use Rattle.tables_sql.proofs.Frozen.{frozen_of, listed_of}
use Rattle.tables_sql.proofs.Steps.{changes_by, changes_none, foreign_then}
use Rattle.tables_sql.proofs.Under.{piece_after, temp_root_after}
use Rattle.tables_writes.specs.TablesValue.{IsWritten}
use Rattle.tables_writes.specs.Others.{KeepsOthers}

-- what was done, in other words
pub done_as : {A E : Type 0} (a b : State) (f h : Contents → Contents) → ((x : Contents) → f x ≡ h x) → (r : Result A E)
    → OnOk r (Changes a b f) → OnOk r (Changes a b h)
done_as a b f h same (Ok v) is = changes_by a b f h same is
done_as a b f h same (Err e) is = is

-- one that was done, if it makes the same of what there was
pub changes_at : (a b : State) (f h : Contents → Contents) → f (contents_of a.now) ≡ h (contents_of a.now)
    → Changes a b f → Changes a b h
changes_at a b f h same is = record {
  was_open = is.was_open;
  is_open = is.is_open;
  schema = is.schema;
  contents = is.contents ∙ same;
  foreign_rows = is.foreign_rows;
  unshown = is.unshown;
  of_store = is.of_store;
  further = is.further;
  committed = is.committed;
  mode = is.mode;
  marks = is.marks;
}

-- one that makes nothing else of what there is, where nothing is written
pub changes_nothing : (s : State) (f : Contents → Contents) → IsUnderWay s → IsTrue s.is_open
    → f (contents_of s.now) ≡ contents_of s.now → Changes s s f
changes_nothing s f under is_open same = changes_at s s (λ c. c) f (sym same) (changes_none s under is_open)

-- the tables of pieces and of temporary roots are there still after a write
pub pieces_exist : (a b : State) (f : Contents → Contents) → (HasCleanDisk b → Changes a b f) → Survives a b (λ _. ⊥)
    → (HasCleanDisk a → IsTrue a.is_open → HasFurther a.now piece) → HasCleanDisk b → HasFurther b.now piece
pieces_exist a b f done survives present clean =
    let it = done clean in
    piece_after a b f it (present (omega (arith, survives.clean, clean)) it.was_open)

pub temp_roots_exist : (a b : State) (f : Contents → Contents) → (HasCleanDisk b → Changes a b f)
    → Survives a b (λ _. ⊥) → (HasCleanDisk a → IsTrue a.is_open → HasFurther a.now temp_root) → HasCleanDisk b
    → HasFurther b.now temp_root
temp_roots_exist a b f done survives present clean =
    let it = done clean in
    temp_root_after a b f it (present (omega (arith, survives.clean, clean)) it.was_open)

-- and so do all that the writing of a change began with, once it is committed
pub whole_after : (a b c : State) (f : Contents → Contents) → Changes a b f → IsCommitted b c → IsWhole a.now
    → IsWhole c.now
whole_after a b c f h k present =
    subst IsWhole (sym k.now) (record {
      of_store = h.of_store;
      pieces = piece_after a b f h present.pieces;
      temp_roots = temp_root_after a b f h present.temp_roots;
    })

-- a change that was written and committed, seen from before the transaction was begun
pub written : {S : Type 0} (g : Ghosts S) (conn start : Held S) (b c : State) (f : Contents → Contents)
    (P : Trees → Type 0) → start ≡ record conn { in_transaction = true }
    → (HasCleanDisk b → Changes (state g start) b f) → Survives (state g start) b (λ _. ⊥) → Survives b c P
    → (HasCleanDisk (state g conn) → IsTrue (state g conn).is_open → IsWhole (state g conn).now) → HasCleanDisk c
    → IsCommitted b c → IsWritten (state g conn) c f
written {S} g conn start b c f P is done before after present clean k =
    let late : HasCleanDisk b = omega (arith, after.clean, clean) in
    let h : Changes (state g (record conn { in_transaction = true })) b f =
    subst (λ (s : Held S). Changes (state g s) b f) is (done late) in
    let kept : Survives (state g (record conn { in_transaction = true })) b (λ _. ⊥) =
    subst (λ (s : Held S). Survives (state g s) b (λ _. ⊥)) is before in
    let early : HasCleanDisk (state g conn) = omega (arith, kept.clean, late) in
    record {
      was_open = h.was_open;
      is_open = k.is_open;
      schema = ap (λ (d : Database). d.schema) k.now ∙ h.schema;
      contents = ap contents_of k.now ∙ h.contents;
      foreign_rows = subst (λ (d : Database). KeepsForeignRows (state g conn).now d) (sym k.now) h.foreign_rows;
      unshown = subst (λ (d : Database). SparesUnshown (state g conn).now d) (sym k.now) h.unshown;
      whole = whole_after (state g (record conn { in_transaction = true })) b c f h k (present early h.was_open);
      ready = k.ready;
    }

-- and what is others' is kept
pub others_kept : (a b : State) (f : Contents → Contents) (P : Trees → Type 0) → Survives a b P
    → (HasCleanDisk a → IsTrue a.is_open → IsReady a) → HasCleanDisk b → IsWritten a b f → KeepsOthers a.now b.now
others_kept a b f P survives ready clean it =
    let early : HasCleanDisk a = omega (arith, survives.clean, clean) in
    let sound = (ready early it.was_open).of_store.sound in
    record {
      schema = it.schema;
      listed = listed_of a.now b.now.trees sound it.unshown;
      foreign_rows = it.foreign_rows;
      frozen = frozen_of a.now b.now.trees sound it.unshown;
    }

-- where nothing changed, it is too
pub nothing_changed : (a b : Database) → b ≡ a → KeepsOthers a b
nothing_changed a b is = subst (KeepsOthers a) (sym is) (record {
  schema = refl;
  listed = refl;
  foreign_rows =
      all_of (λ (t : Table). names_store_table t.name ≡ false → a.trees t.tree ≡ a.trees t.tree) (λ t other. refl)
      a.schema.tables;
  frozen = record { rows = λ tree it. refl; texts = λ row present foreign. present; version = refl };
})

-- over two steps too
pub others_then : (a b c : Database) → KeepsOthers a b → KeepsOthers b c → KeepsOthers a c
others_then a b c h k = record {
  schema = k.schema ∙ h.schema;
  listed = k.listed ∙ h.listed;
  foreign_rows = foreign_then a b c h.schema h.foreign_rows k.foreign_rows;
  frozen = record {
    rows =
        λ tree is. k.frozen.rows tree (subst (λ (s : Schema). IsFrozen s tree) (sym h.schema) is)
        ∙ h.frozen.rows tree is;
    texts = λ row present foreign. k.frozen.texts row (h.frozen.texts row present foreign) foreign;
    version = k.frozen.version ∙ h.frozen.version;
  };
}
