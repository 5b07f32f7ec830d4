-- A call that fails after others were done.
use Rattle.std.proofs.Common.{Result, Ok, Err, arith}
use Rattle.std.specs.Prelude.{OnErr}
use Rattle.sqlite.specs.State.{State, HasCleanDisk, KeepsCommit, Survives}
use Rattle.tables_sql.specs.Contents.{Contents}
use Rattle.tables_sql.specs.Calls.{Changes}
use Rattle.tables_sql.proofs.Steps.{keeps_after}

-- what was changed before it keeps the last commit
pub err_kept : {A E : Type 0} (a b c : State) (f : Contents → Contents) (r : Result A E)
    → (HasCleanDisk b → Changes a b f) → Survives b c (λ _. ⊥) → KeepsCommit b c → HasCleanDisk c
    → OnErr r (KeepsCommit a c)
err_kept a b c f (Ok v) done after k clean = tt
err_kept a b c f (Err e) done after k clean = keeps_after a b c f (done (omega (arith, after.clean, clean))) k
