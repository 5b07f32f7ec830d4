-- What an opening promises, as a call above it promises it.
use Rattle.std.proofs.Common.{◌≡◌, ℕ, false, List, Result, Err, IsTrue, refl}
use Rattle.sqlite_trees.specs.declared.store.Store.{Ghosts}
use Rattle.sqlite_trees.specs.Tree.{Trees}
use Rattle.sqlite.specs.State.{State, HasCleanDisk, IsUnchanged, Survives}
use Rattle.sqlite.specs.Held.{state}
use Rattle.sqlite.proofs.StateLemmas.{survives_weaker}
use Rattle.tables_sql.specs.Calls.{KeepsShown}
use Rattle.tables_sql.proofs.Transactions.{survives_none}
use Rattle.tables_writes.specs.TablesValue.{TablesValue}
use Rattle.tables.specs.Opening.{IsCause, OpensStore, LeavesOpening}
use Rattle.tables.specs.Adopted.{Adopts}
use Rattle.tables.specs.declared.unopened.Unadopted.{Unadopted}
use Rattle.tables.proofs.Passed.{among, with_before, both_survive, both_same, same_cause, same_took}

module _ {S : Type 0} (g : Ghosts S) (dir : List ℕ) where
  -- what the tables show, and what a crash leaves, is one of more
  pub adopts_more : (a : State) (r : Result (TablesValue S) (Unadopted S)) (A : Type 0) (P P' : TablesValue S → Type 0)
      (Q Q' : Trees → Type 0)
      → (HasCleanDisk a → A) → ((t : TablesValue S) → P t → P' t) → ((db : Trees) → A → Q db → Q' db)
      → Adopts g dir a r P Q → Adopts g dir a r P' Q'
  adopts_more a r A P P' Q Q' was shows leaves it = record {
    dir = it.dir;
    opens =
        among (λ (t : TablesValue S). state g t.connection) (λ (e : Unadopted S). state g e.conn) r P P' shows it.opens;
    idle = it.idle;
    cause = it.cause;
    same = it.same;
    durable = it.durable;
    survives =
        with_before (λ (t : TablesValue S). state g t.connection) (λ (e : Unadopted S). state g e.conn) r a A Q Q' was
        leaves it.survives;
  }

  -- the connection was read before, which changed nothing
  pub adopts_after : (a b : State) (r : Result (TablesValue S) (Unadopted S)) → (HasCleanDisk b → IsUnchanged a b)
      → Survives a b (λ _. ⊥) → (HasCleanDisk b → KeepsShown a b)
      → Adopts g dir b r (OpensStore g dir b.now) (LeavesOpening dir b.now)
      → Adopts g dir a r (OpensStore g dir a.now) (LeavesOpening dir a.now)
  adopts_after a b r unchanged first kept it =
      let f : TablesValue S → State = λ t. state g t.connection in
      let h : Unadopted S → State = λ e. state g e.conn in
      record {
        dir = it.dir;
        opens = same_took f h r a b dir unchanged first it.survives (λ db t. OpensStore g dir db t) it.opens;
        idle = it.idle;
        cause = same_cause f h r a b dir unchanged first it.survives (λ e. e.cause) it.cause;
        same = both_same f h r a b dir unchanged first it.survives kept it.same;
        durable = it.durable;
        survives = both_survive f h r a b dir unchanged first it.survives;
      }

  -- nothing was done to the connection; by the law of each store one that is open recovers its last commit alone
  pub adopts_refused : ((s : S) (db : Trees) → IsTrue (g.view s).is_open → g.recovers s db → db ≡ (g.view s).committed)
      → (e : Unadopted S) → e.conn.in_transaction ≡ false
      → (HasCleanDisk (state g e.conn) → IsCause dir (state g e.conn) (state g e.conn) e.cause)
      → (P : TablesValue S → Type 0) (Q : Trees → Type 0) → Adopts g dir (state g e.conn) (Err e) P Q
  adopts_refused settled e idle why P Q = record {
    dir = tt;
    opens = tt;
    idle = idle;
    cause = why;
    same = λ clean. record { was_open = λ up. up; now = λ up. refl; committed = λ up. refl };
    durable = λ is_open db may. settled e.conn.store db is_open may;
    survives =
        survives_weaker (state g e.conn) (state g e.conn) (λ _. ⊥) Q (λ clean db none. absurd none)
        (survives_none (state g e.conn));
  }
