-- A connection whose limit on steps was cleared.
use Rattle.std.proofs.Common.{◌≡◌, ℕ, List, None, Result, ap, subst}
use Rattle.sqlite_trees.specs.declared.store.Store.{Ghosts}
use Rattle.sqlite.specs.State.{State}
use Rattle.sqlite.specs.Held.{Held, state}
use Rattle.tables_writes.specs.TablesValue.{TablesValue}
use Rattle.tables.specs.Opening.{OpensStore, LeavesOpening, unlimited}
use Rattle.tables.specs.Adopted.{Adopts}
use Rattle.tables.specs.declared.unopened.Unadopted.{Unadopted}

module _ {S : Type 0} (g : Ghosts S) where
  cleared : (old new : Held S) → new ≡ record old { step_limit = None } → state g new ≡ unlimited (state g old)
  cleared old new is = ap (state g) is

  -- what is opened over it is opened over the connection as it was, without the limit
  pub adopts_unlimited : (dir : List ℕ) (old new : Held S) → new ≡ record old { step_limit = None }
      → (r : Result (TablesValue S) (Unadopted S))
      → Adopts g dir (state g new) r (OpensStore g dir (state g new).now) (LeavesOpening dir (state g new).now)
      → Adopts g dir (unlimited (state g old)) r (OpensStore g dir (state g old).now)
      (LeavesOpening dir (state g old).now)
  adopts_unlimited dir old new is r =
      subst (λ (s : State). Adopts g dir s r (OpensStore g dir s.now) (LeavesOpening dir s.now)) (cleared old new is)
