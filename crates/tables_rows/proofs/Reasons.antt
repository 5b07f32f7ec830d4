-- Why a write inside a transaction failed, and the transaction with it.
use Rattle.std.proofs.Common.{◌≡◌, ◌≤◌, ℕ, ◌+◌, inl, inr, true, false, Result, Ok, Err, Option, Some, None, option_map}
use Rattle.std.proofs.Common.{String, Global, string_bytes, refl, sym, subst, ◌∙◌, arith, IsTrue}
use Rattle.std.specs.Prelude.{IfErr, IsSome}
use Rattle.sqlite_value.specs.declared.value.Value.TheVariants.{Text}
use Rattle.sqlite_value.specs.Order.{Row}
use Rattle.sqlite_schema.specs.declared.schema.Table.{Table}
use Rattle.sqlite_trees.specs.declared.store.Store.{Ghosts}
use Rattle.sqlite_trees.specs.Tree.{Trees}
use Rattle.sqlite_trees.proofs.ListLemmas.{all_of}
use Rattle.sqlite.specs.Effect.{Database}
use Rattle.sqlite.specs.State.{State, Survives}
use Rattle.sqlite.specs.Held.{Held, state}
use Rattle.tables_schema.specs.Forms.{names_store_table}
use Rattle.sqlite.specs.Values.{or_null}
use Rattle.tables_sql.specs.Contents.{Contents}
use Rattle.tables_rows.specs.Entries.{text_or_null}
use Rattle.tables_sql.specs.Calls.{Changes}
use Rattle.tables_sql.specs.Failures.{FailsFor, FailsToInsert, FailsToCommit}
use Rattle.tables_sql.specs.declared.failure.Failed.{Failed}
use Rattle.tables_sql.specs.declared.failure.Failed.TheVariants.{Memory, Size, Disk}
use Rattle.tables_sql.proofs.Steps.{foreign_then}
use Rattle.tables_sql.specs.Rowids.{NumbersOn}
use Rattle.tables_sql.proofs.Rowids.{full_before, full_for_one, fuller, numbers_on_more, numbers_on_none}
use Rattle.tables_sql.proofs.Rowids.{numbers_on_then}
use Rattle.tables_rows.specs.Reasons.{Rows, AreAmong, Both, IsRow, NoRow, IsWithin, IsReason}

-- ---- rows among others

pub all_among : (rows : Rows) → AreAmong rows rows
all_among rows = record { count = omega arith; has = λ t values h. h }

pub none_among : (rows : Rows) → AreAmong NoRow rows
none_among rows = record { count = omega arith; has = λ t values h. absurd h }

pub first_among : (x y : Rows) → AreAmong x (Both x y)
first_among x y = record { count = omega arith; has = λ t values h. inl h }

pub second_among : (x y : Rows) → AreAmong y (Both x y)
second_among x y = record { count = omega arith; has = λ t values h. inr h }

pub among_then : (x y z : Rows) → AreAmong x y → AreAmong y z → AreAmong x z
among_then x y z h k = let few = h.count in let more =
    k.count in record { count = omega (arith, few, more); has = λ t values own. k.has t values (h.has t values own) }

-- a row in other words
pub row_among : (t : Table) (v w : Row) (y : Rows) → v ≡ w → AreAmong (IsRow t v) (Both (IsRow t w) y)
row_among t v w y same = record { count = omega arith; has = λ u values h. inl (h.0, h.1 ∙ same) }

-- ---- one call

-- the database itself is one that the transaction shows
here : (db : Database) → IsWithin db db
here db =
    record {
      schema = refl;
      foreign_rows =
          all_of (λ (t : Table). names_store_table t.name ≡ false → db.trees t.tree ≡ db.trees t.tree) (λ t other. refl)
          db.schema.tables;
    }

-- a call that puts no row
pub removal_reason : (rows : Rows) (a b : State) (f : Failed) → FailsFor a b f → IsReason rows a b f
removal_reason rows a b Memory h = tt
removal_reason rows a b Size h = absurd h.0
removal_reason rows a b Disk (inl h) = inl h.0
removal_reason rows a b Disk (inr h) = inr (inl h.0)

-- one that puts one of these rows where none is, unless a fault had shut the connection
pub put_open : (rows : Rows) (a b : State) (t : Table) (values : Row) (Taken : Type 0) → AreAmong (IsRow t values) rows
    → (IsTrue a.is_open → Taken → ⊥) → (f : Failed) → FailsToInsert t values Taken a b f → IsReason rows a b f
put_open rows a b t values Taken among free Memory h = tt
put_open rows a b t values Taken among free Size h =
    (h.0.1, (a.now, here a.now, t, values, among.has t values (refl, refl), h.0.0))
put_open rows a b t values Taken among free Disk (inl h) = inl h.0
put_open rows a b t values Taken among free Disk (inr (inl limit, same)) = inr (inl limit)
put_open rows a b t values Taken among free Disk (inr (inr (inl full), same)) =
    inr (inr (
      t,
      values,
      among.has t values (refl, refl),
      fuller 1 rows.count a.now t among.count (full_for_one a.now t full),
    ))
put_open rows a b t values Taken among free Disk (inr (inr (inr loaded), same)) = absurd (free same.0.was_open loaded)

-- one that puts one where none is
pub put_reason : (rows : Rows) (a b : State) (t : Table) (values : Row) (Taken : Type 0)
    → AreAmong (IsRow t values) rows → (Taken → ⊥) → (f : Failed) → FailsToInsert t values Taken a b f
    → IsReason rows a b f
put_reason rows a b t values Taken among free = put_open rows a b t values Taken among (λ up. free)

-- more rows
pub more_reason : (rows more : Rows) → AreAmong rows more → (a b : State) (f : Failed) → IsReason rows a b f
    → IsReason more a b f
more_reason rows more among a b Memory h = tt
more_reason rows more among a b Size h = let it = h.1 in (h.0, (it.0, it.1, it.2, it.3, among.has it.2 it.3 it.4, it.5))
more_reason rows more among a b Disk (inl h) = inl h
more_reason rows more among a b Disk (inr (inl h)) = inr (inl h)
more_reason rows more among a b Disk (inr (inr it)) =
    inr (inr (it.0, it.1, among.has it.0 it.1 it.2, fuller rows.count more.count a.now it.0 among.count it.3))

-- ---- rows that are left

-- Of the rows of a call some were put since the first database, and these are left. No table numbers on by more rows
-- than were put.
pub record AreLeft (rows rest : Rows) (first now : Database) : Type 0 where
  pub put : ℕ
  pub on : NumbersOn put first now
  pub count : put + rest.count ≤ rows.count
  pub has : (t : Table) (values : Row) → rest.has t values → rows.has t values

-- none was put yet
pub left_whole : (rows : Rows) (db : Database) → AreLeft rows rows db db
left_whole rows db = record { put = 0; on = numbers_on_none db; count = omega arith; has = λ t values h. h }

-- rows were taken away first
pub none_put : (rows : Rows) (a b : Database) → NumbersOn 0 a b → AreLeft rows rows a b
none_put rows a b on = record { put = 0; on = on; count = omega arith; has = λ t values h. h }

-- something was read first
pub left_unchanged : (rows : Rows) (a b : Database) → b ≡ a → AreLeft rows rows a b
left_unchanged rows a b is = subst (AreLeft rows rows a) (sym is) (left_whole rows a)

module _ (rows x y : Rows) (a b c : Database) (left : AreLeft rows (Both x y) a b) (same : b.schema ≡ a.schema)
    (on : NumbersOn x.count b c) where
  -- the first of them were put next
  pub left_next : AreLeft rows y a c
  left_next =
      let count = left.count in
      record {
        put = left.put + x.count;
        on = numbers_on_then left.put x.count a b c same left.on on;
        count = omega (arith, count);
        has = λ t values h. left.has t values (inr h);
      }

-- the first part was put
pub second_left : (x y : Rows) (a b : Database) → NumbersOn x.count a b → AreLeft (Both x y) y a b
second_left x y a b on = left_next (Both x y) x y a a b (left_whole (Both x y) a) refl on

-- and rows were taken away next
pub left_still : (rows rest : Rows) (a b c : Database) → AreLeft rows rest a b → b.schema ≡ a.schema → NumbersOn 0 b c
    → AreLeft rows rest a c
left_still rows rest a b c left same on =
    record {
      put = left.put;
      on = numbers_on_more (left.put + 0) left.put a c (omega arith)
          (numbers_on_then left.put 0 a b c same left.on on);
      count = left.count;
      has = left.has;
    }

-- all were put in the end
pub numbers_of : (rows rest : Rows) (a b : Database) → AreLeft rows rest a b → NumbersOn rows.count a b
numbers_of rows rest a b left = let count =
    left.count in numbers_on_more left.put rows.count a b (omega (arith, count)) left.on

pub numbers_both : (rows rest : Rows) (a b c : Database) → AreLeft rows rest a b → b.schema ≡ a.schema
    → NumbersOn rest.count b c → NumbersOn rows.count a c
numbers_both rows rest a b c left same on =
    let count = left.count in
    numbers_on_more (left.put + rest.count) rows.count a c (omega (arith, count))
    (numbers_on_then left.put rest.count a b c same left.on on)

-- ---- after others

pub within_then : (a b c : Database) → IsWithin a b → IsWithin b c → IsWithin a c
within_then a b c h k =
    record { schema = k.schema ∙ h.schema; foreign_rows = foreign_then a b c h.schema h.foreign_rows k.foreign_rows }

changed_within : {a b : State} {f : Contents → Contents} → Changes a b f → IsWithin a.now b.now
changed_within h = record { schema = h.schema; foreign_rows = h.foreign_rows }

-- a call that failed to put what was left, after a change that was done
pub next_reason : (rows rest : Rows) (a b c : State) (f : Contents → Contents) → Changes a b f → Survives a b (λ _. ⊥)
    → AreLeft rows rest a.now b.now → (e : Failed) → IsReason rest b c e → IsReason rows a c e
next_reason rows rest a b c f done before left Memory h = tt
next_reason rows rest a b c f done before left Size h = let it =
    h.1 in (
      done.was_open,
      (
        it.0,
        within_then a.now b.now it.0 (changed_within done) it.1,
        it.2,
        it.3,
        left.has it.2 it.3 it.4,
        it.5,
      ),
    )
next_reason rows rest a b c f done before left Disk (inl (inl more)) = inl (inl (omega (arith, more, before.counts)))
next_reason rows rest a b c f done before left Disk (inl (inr shut)) = absurd (let no = sym done.is_open ∙ shut in cc)
next_reason rows rest a b c f done before left Disk (inr (inl limit)) = inr (inl (subst IsSome before.limit limit))
next_reason rows rest a b c f done before left Disk (inr (inr it)) =
    inr (inr (
      it.0,
      it.1,
      left.has it.0 it.1 it.2,
      fuller (left.put + rest.count) rows.count a.now it.0 left.count
          (full_before left.put rest.count a.now b.now it.0 done.schema left.on it.3),
    ))

-- a commit that failed after it
pub commit_reason : (rows : Rows) (a b c : State) (f : Contents → Contents) → Changes a b f → Survives a b (λ _. ⊥)
    → (e : Failed) → FailsToCommit b c e → IsReason rows a c e
commit_reason rows a b c f done before Memory h = tt
commit_reason rows a b c f done before Size h = absurd h
commit_reason rows a b c f done before Disk (inl more, undone) = inl (inl (omega (arith, more, before.counts)))
commit_reason rows a b c f done before Disk (inr shut, undone) = absurd (let no = sym done.is_open ∙ shut in cc)

-- what came after it, as a rollback, forgets no fault
pub later_reason : (rows : Rows) (a b c : State) (P : Trees → Type 0) → Survives b c P → (e : Failed)
    → IsReason rows a b e → IsReason rows a c e
later_reason rows a b c P after Memory h = tt
later_reason rows a b c P after Size h = h
later_reason rows a b c P after Disk (inl (inl more)) = inl (inl (omega (arith, more, after.counts)))
later_reason rows a b c P after Disk (inl (inr shut)) = inl (inr shut)
later_reason rows a b c P after Disk (inr h) = inr h

-- seen from before the transaction was begun
pub begun_reason : {S : Type 0} (g : Ghosts S) (conn start : Held S) (rows : Rows) (b : State)
    → start ≡ record conn { in_transaction = true } → (e : Failed) → IsReason rows (state g start) b e
    → IsReason rows (state g conn) b e
begun_reason {S} g conn start rows b is e h = same e (subst (λ (s : Held S). IsReason rows (state g s) b e) is h)
  where
    same : (e : Failed) → IsReason rows (state g (record conn { in_transaction = true })) b e
        → IsReason rows (state g conn) b e
    same Memory h = tt
    same Size h = h
    same Disk h = h

-- ---- of a result

module _ {T : Type 0} where
  pub as_reason : (P Q : Failed → Type 0) → ((f : Failed) → P f → Q f) → (r : Result T Failed) → IfErr r P → IfErr r Q
  as_reason P Q leads (Ok v) h = tt
  as_reason P Q leads (Err f) h = leads f h

-- nothing is there
pub is_none : {X : Type 0} (o : Option X) → o ≡ None → IsSome o → ⊥
is_none None is h = absurd (let e = h in cc)
is_none (Some x) is h = absurd (let e = is in cc)

-- a text that may be missing, in other words
pub text_same : (o : Option (String Global)) → text_or_null o ≡ or_null Text (option_map string_bytes o)
text_same None = refl
text_same (Some s) = refl
