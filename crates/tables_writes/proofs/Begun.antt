-- A transaction that was begun: what was so before is so still, and what comes of a commit that failed.
use Rattle.std.proofs.Common.{◌≡◌, Result, Ok, Err, subst, sym, ◌∙◌, true, arith, IsTrue}
use Rattle.std.specs.Prelude.{OnOk, OnErr}
use Rattle.sqlite_trees.specs.declared.store.Store.{Ghosts}
use Rattle.sqlite_trees.specs.Tree.{Trees}
use Rattle.sqlite.specs.Effect.{Database}
use Rattle.sqlite.specs.State.{State, HasCleanDisk, IsRolledBack, Survives}
use Rattle.sqlite.specs.Held.{Held, state}
use Rattle.tables_sql.specs.Contents.{Contents}
use Rattle.tables_sql.specs.Calls.{IsReady, KeepsShown, Changes}

-- what was so of the tables is so still when the transaction is begun
pub begun_has : {S : Type 0} (g : Ghosts S) (conn start : Held S) (P : Database → Type 0)
    → start ≡ record conn { in_transaction = true }
    → (HasCleanDisk (state g conn) → IsTrue (state g conn).is_open → P (state g conn).now)
    → HasCleanDisk (state g start) → IsTrue (state g start).is_open → P (state g start).now
begun_has {S} g conn start P is was =
    subst (λ (s : Held S). HasCleanDisk (state g s) → IsTrue (state g s).is_open → P (state g s).now) (sym is) was

-- a change that was written and failed at its commit: what is shown is what was shown before the transaction was begun
pub undone : {A E S : Type 0} (g : Ghosts S) (conn start : Held S) (b c : State) (f : Contents → Contents)
    (P : Trees → Type 0) (r : Result A E) → start ≡ record conn { in_transaction = true }
    → (HasCleanDisk b → Changes (state g start) b f) → Survives (state g start) b (λ _. ⊥) → Survives b c P
    → (HasCleanDisk (state g conn) → IsTrue (state g conn).is_open → IsReady (state g conn)) → HasCleanDisk c
    → OnErr r (IsRolledBack b c) → OnErr r (KeepsShown (state g conn) c)
undone g conn start b c f P (Ok v) is done before after ready clean k = tt
undone {A} {E} {S} g conn start b c f P (Err e) is done before after ready clean k =
    let late : HasCleanDisk b = omega (arith, after.clean, clean) in
    let h : Changes (state g (record conn { in_transaction = true })) b f =
    subst (λ (s : Held S). Changes (state g s) b f) is (done late) in
    let kept : Survives (state g (record conn { in_transaction = true })) b (λ _. ⊥) =
    subst (λ (s : Held S). Survives (state g s) b (λ _. ⊥)) is before in
    let early : HasCleanDisk (state g conn) = omega (arith, kept.clean, late) in
    record {
      was_open = λ up. h.was_open;
      now = λ up. (k.undone up).0 ∙ h.committed ∙ sym (ready early h.was_open).settled;
      committed = λ up. (k.undone up).1 ∙ h.committed;
    }

-- what is so whatever came of it
pub always_done : {A E : Type 0} (r : Result A E) (P : Type 0) → P → OnOk r P
always_done (Ok v) P h = h
always_done (Err e) P h = tt
