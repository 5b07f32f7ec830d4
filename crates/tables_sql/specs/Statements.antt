-- What each statement on a connection requires of it and promises, whatever its text.
use Rattle.std.specs.Prelude.{◌≡◌, ◌⊎◌, ℕ, true, false, Bool, List, length, Result, Ok, IsTrue, IfOk, IfErr, OnOk}
use Rattle.std.specs.Prelude.{OnErr}
use Rattle.std.specs.Borrow.{MutBor}
use Rattle.std.specs.List.{AllZip, AllAdjacentBelow}
use Rattle.std.specs.declared.alloc.Global.{Global}
use Rattle.std.specs.declared.vec.Vec.{Vec}
use Rattle.sqlite_value.specs.Order.{Row}
use Rattle.sqlite_trees.specs.declared.store.Store.{Ghosts}
use Rattle.sqlite.specs.State.{State, HasCleanDisk, KeepsCommit, Survives, ExecutesInside}
use Rattle.sqlite.specs.Held.{Held, state}
use Rattle.tables_sql.specs.Calls.{IsUnderWay, KeepsShown}
use Rattle.tables_sql.specs.Failures.{IsQueryFailure}
use Rattle.tables_sql.specs.Queries.{HasBegunWith, IsAnswered}
use Rattle.tables_sql.specs.Reading.{IsAmiss}
use Rattle.tables_sql.specs.declared.failure.Failed.{Failed}
use Rattle.tables_sql.specs.declared.failure.Failed.TheVariants.{Memory, Disk}

module _ {S : Type 0} (g : Ghosts S) where
  -- ---- a call inside a transaction

  -- a transaction is under way over the store's tables, unless a fault has shut the connection
  abbrev pub IsInside : MutBor (Held S) → Type 0
  IsInside old = HasCleanDisk (state g old.now) → IsUnderWay (state g old.now)

  -- A write stays in its transaction, and where it fails nothing is committed. A crash leaves what it could leave
  -- before.
  pub record StaysInside {T E : Type 0} (old new : MutBor (Held S)) (result : Result T E) : Type 0 where
    pub same_reference : new.ghost_name ≡ old.ghost_name
    pub failed : HasCleanDisk (state g new.now) → OnErr result (KeepsCommit (state g old.now) (state g new.now))
    pub survives : Survives (state g old.now) (state g new.now) (λ _. ⊥)

  -- a write does what `sqlite` says of this text and its parameters, or fails with one of these failures of them
  pub record Executes {T : Type 0} (old new : MutBor (Held S)) (result : Result T Failed) (text : List ℕ)
      (params : Row) (IsFailure : List ℕ → Row → State → State → Failed → Type 0) : Type 0 where
    pub frame : StaysInside old new result
    pub ran : HasCleanDisk (state g new.now)
        → OnOk result ((count : ℕ) × ExecutesInside 0 text params (state g old.now) (state g new.now) (Ok count))
    pub cause : HasCleanDisk (state g new.now)
        → IfErr result (IsFailure text params (state g old.now) (state g new.now))

  -- ---- a query outside a transaction

  -- A query shows exactly these entries, with rising keys. Otherwise `sqlite` failed, memory ran out, or a row isn't
  -- readable or doesn't rise. The connection shows what it showed, and a crash leaves what it could leave before.
  pub record SelectsEntries {T : Type 0} (old new : Held S) (result : Result (Vec T Global) Failed) (text : List ℕ)
      (params : Row) (is_legible : Row → Type 0) (is_shown : Row → T → Type 0) (is_below : T → T → Bool)
      : Type 0 where
    pub idle : old.in_transaction ≡ false → new.in_transaction ≡ false
    pub shown : HasCleanDisk (state g new)
        → IfOk result
        (λ all. (rows : List Row) × IsAnswered text params (state g old) (state g new) rows
        × AllZip is_shown rows all.items)
    pub rises : HasCleanDisk (state g new)
        → IfOk result (λ all. AllAdjacentBelow (λ x y. true ≡ is_below x y) all.items (length all.items))
    pub cause : HasCleanDisk (state g new)
        → IfErr result
        (λ f. IsQueryFailure text params (state g old) (state g new) f
        ⊎ ((rows : List Row) × HasBegunWith text params (state g old) (state g new) rows
        × ((f ≡ Memory) ⊎ ((f ≡ Disk) × IsAmiss is_legible is_shown is_below rows))))
    pub same : HasCleanDisk (state g new) → (IsTrue (state g old).is_open → (state g old).now ≡ (state g old).committed)
        → KeepsShown (state g old) (state g new)
    pub survives : Survives (state g old) (state g new) (λ _. ⊥)
