-- What a read of the disk leaves of the tables, whether it succeeds or fails.
use Rattle.std.proofs.Common.{◌≡◌, Option, None, is_some, Result, Ok, Err, IfOk, IfErr, IsErrAnd, IsTrue, refl, sym, ap}
use Rattle.std.proofs.Common.{subst}
use Rattle.std.proofs.lemmas.Bool.{false≢true}
use Rattle.sqlite_trees.specs.declared.store.Store.{Ghosts}
use Rattle.sqlite.specs.State.{HasCleanDisk, Survives}
use Rattle.sqlite.specs.Held.{Held, state}
use Rattle.tables_sql.specs.Calls.{KeepsShown}
use Rattle.tables_sql.specs.Failures.{FailsToRead}
use Rattle.tables_sql.specs.declared.failure.Failed.{Failed}
use Rattle.tables_sql.proofs.Transactions.{survives_none}
use Rattle.tables_rows.specs.Frames.{LeftAsItWas}
use Rattle.model.specs.World.{World}
use Rattle.tables_writes.specs.Writes.{FailsToAsk, ReadsTables}
use Rattle.tables_writes.specs.TablesValue.{TablesValue, Agrees, HasWorld}
use Rattle.tables_writes.proofs.AfterWrites.{reported_failed}

module _ {S : Type 0} (g : Ghosts S) where
  -- nothing is there, and the disk isn't asked
  pub nothing_read : {T : Type 0} (k : TablesValue S) (shows : World → Option T → Type 0)
      → ((w : World) → HasWorld g k w → shows w None) → ReadsTables g {T = T} k k (Ok None) shows
  nothing_read k shows none = record {
    dir = refl;
    found = λ clean. none;
    same = λ w t. t;
    was_open = λ clean some. absurd (false≢true some);
    shown = λ clean. record { was_open = λ up. up; now = λ up. refl; committed = λ up. refl };
    cause = λ clean. tt;
    survives = survives_none (state g k.connection);
  }

  -- the connection was read, which left it as it was
  module _ (k now : TablesValue S) (view : k ≡ now) (agrees : Agrees g k) (conn : Held S)
      (left : LeftAsItWas g k.connection conn) where
    abbrev after : TablesValue S
    after = record { connection = conn; dir = k.dir; outline = k.outline }

    pub tables_read : {T : Type 0} (r : Result (Option T) Failed) (shows : World → Option T → Type 0)
        → (HasCleanDisk (state g conn) → IfOk r (λ it. (w : World) → HasWorld g now w → shows w it))
        → (HasCleanDisk (state g conn)
        → IfOk r (λ it. IsTrue (is_some it)
        → IsTrue (state g k.connection).is_open × IsTrue (state g conn).is_open))
        → (HasCleanDisk (state g conn) → IfErr r (FailsToRead (state g k.connection) (state g conn)))
        → ReadsTables g now after r shows
    tables_read r shows found was_open cause = record {
      dir = ap (λ (n : TablesValue S). n.dir) view;
      found = found;
      same = reported_failed g k now view conn k.outline agrees _ left.survives left.same refl;
      was_open =
          subst (λ (n : TablesValue S). HasCleanDisk (state g conn)
          → IfOk r (λ it. IsTrue (is_some it)
          → IsTrue (state g n.connection).is_open × IsTrue (state g conn).is_open)) view was_open;
      shown =
          subst (λ (n : TablesValue S). HasCleanDisk (state g conn) → KeepsShown (state g n.connection) (state g conn))
          view left.same;
      cause =
          subst (λ (n : TablesValue S). HasCleanDisk (state g conn)
          → IfErr r (FailsToRead (state g n.connection) (state g conn))) view cause;
      survives =
          subst (λ (n : TablesValue S). Survives (state g n.connection) (state g conn) (λ _. ⊥)) view left.survives;
    }

    -- it failed, and its error is passed on
    pub tables_unread : {T : Type 0} (e : Failed)
        → (HasCleanDisk (state g conn) → FailsToRead (state g k.connection) (state g conn) e)
        → (r : Result (Option T) Failed) (shows : World → Option T → Type 0) → IsErrAnd r (λ f. f ≡ e)
        → ReadsTables g now after r shows
    tables_unread e cause (Ok x) shows is = absurd is
    tables_unread e cause (Err f) shows is =
        tables_read (Err f) shows (λ clean. tt) (λ clean. tt)
        (λ clean. subst (FailsToRead (state g k.connection) (state g conn)) (sym is) (cause clean))

  -- ---- after a read of the tables

  module _ {T : Type 0} (old new : TablesValue S) (a : Result (Option T) Failed) (P : World → Option T → Type 0)
      (read : ReadsTables g old new a P) where
    -- something else is made of what it found
    pub made_of_read : {U : Type 0} (r : Result (Option U) Failed) (Q : World → Option U → Type 0)
        → (HasCleanDisk (state g new.connection) → IfOk r (λ it. (w : World) → HasWorld g old w → Q w it))
        → (HasCleanDisk (state g new.connection)
        → IfOk r (λ it. IsTrue (is_some it)
        → IsTrue (state g old.connection).is_open × IsTrue (state g new.connection).is_open))
        → FailsToAsk g old new r → ReadsTables g old new r Q
    made_of_read r Q found was_open cause = record {
      dir = read.dir;
      found = found;
      same = read.same;
      was_open = was_open;
      shown = read.shown;
      cause = cause;
      survives = read.survives;
    }

    -- nothing is made of it, for this error
    pub stopped_after_read : {U : Type 0} (e : Failed)
        → (HasCleanDisk (state g new.connection) → FailsToRead (state g old.connection) (state g new.connection) e)
        → (r : Result (Option U) Failed) (Q : World → Option U → Type 0) → IsErrAnd r (λ f. f ≡ e)
        → ReadsTables g old new r Q
    stopped_after_read e cause (Ok x) Q is = absurd is
    stopped_after_read e cause (Err f) Q is =
        made_of_read (Err f) Q (λ clean. tt) (λ clean. tt)
        (λ clean. subst (FailsToRead (state g old.connection) (state g new.connection)) (sym is) (cause clean))
