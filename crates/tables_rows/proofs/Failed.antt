-- What a connection shows whose transaction was undone, and what comes of a call that failed.
use Rattle.std.proofs.Common.{◌≡◌, true, Result, Ok, Err, sym, subst, ◌∙◌, IsTrue}
use Rattle.std.specs.Prelude.{IsErrAnd, OnOk, OnErr}
use Rattle.sqlite_trees.specs.declared.store.Store.{Ghosts}
use Rattle.sqlite.specs.State.{State, HasCleanDisk, IsRolledBack, KeepsCommit}
use Rattle.sqlite.specs.Held.{Held, state}
use Rattle.tables_sql.specs.Calls.{IsReady, KeepsShown}

shown_begun : {S : Type 0} (g : Ghosts S) (conn : Held S) (b c : State)
    → KeepsCommit (state g (record conn { in_transaction = true })) b
    → (IsTrue (state g conn).is_open → IsReady (state g conn)) → IsRolledBack b c → KeepsShown (state g conn) c
shown_begun g conn b c h ready k = record {
  was_open = λ up. h.was_open (k.was_open up);
  now = λ up. (k.undone up).0 ∙ h.committed (k.was_open up) ∙ sym (ready (h.was_open (k.was_open up))).settled;
  committed = λ up. (k.undone up).1 ∙ h.committed (k.was_open up);
}

-- it shows what it showed before the transaction was begun
pub shown_undone : {S : Type 0} (g : Ghosts S) (conn start : Held S) (b c : State)
    → start ≡ record conn { in_transaction = true } → HasCleanDisk (state g start) → KeepsCommit (state g start) b
    → (HasCleanDisk (state g conn) → IsTrue (state g conn).is_open → IsReady (state g conn)) → IsRolledBack b c
    → KeepsShown (state g conn) c
shown_undone {S} g conn start b c is clean h ready k =
    shown_begun g conn b c (subst (λ (x : Held S). KeepsCommit (state g x) b) is h)
    (ready (subst (λ (x : Held S). HasCleanDisk (state g x)) is clean)) k

pub on_err : {A E : Type 0} (r : Result A E) (P Q : Type 0) → (P → Q) → OnErr r P → OnErr r Q
on_err (Ok v) P Q f h = h
on_err (Err e) P Q f h = f h

-- an error that is passed on: nothing is done
pub none_done : {A E : Type 0} (r : Result A E) (e : E) (P : Type 0) → IsErrAnd r (λ f. f ≡ e) → OnOk r P
none_done (Ok v) e P is = absurd is
none_done (Err f) e P is = tt

pub always_failed : {A E : Type 0} (r : Result A E) (P : Type 0) → P → OnErr r P
always_failed (Ok v) P h = tt
always_failed (Err e) P h = h

pub always_done : {A E : Type 0} (r : Result A E) (P : Type 0) → P → OnOk r P
always_done (Ok v) P h = h
always_done (Err e) P h = tt
