-- What a call inside a transaction keeps of it, after one that was done.
use Rattle.std.proofs.Common.{◌≡◌, Result, ◌∙◌}
use Rattle.std.specs.Borrow.{MutBor}
use Rattle.sqlite_trees.specs.declared.store.Store.{Ghosts}
use Rattle.sqlite.specs.State.{HasCleanDisk, KeepsCommit, Survives}
use Rattle.sqlite.specs.Held.{Held, state}
use Rattle.tables_sql.specs.Contents.{Contents}
use Rattle.tables_sql.specs.Calls.{Changes}
use Rattle.tables_sql.proofs.TestFailures.{survives_both}
use Rattle.tables_sql.proofs.Transactions.{failed_next}
use Rattle.tables_rows.specs.Frames.{StaysInside}
use Rattle.tables_rows.proofs.Failing.{err_kept}

module _ {S : Type 0} (g : Ghosts S) (a b c : MutBor (Held S)) where
  -- the first was done
  module _ (f : Contents → Contents) (same : b.ghost_name ≡ a.ghost_name)
      (done : HasCleanDisk (state g b.now) → Changes (state g a.now) (state g b.now) f)
      (survives : Survives (state g a.now) (state g b.now) (λ _. ⊥)) where
    pub done_stays : {T E : Type 0} (r : Result T E) → StaysInside g b c r → StaysInside g a c r
    done_stays r k = record {
      same_reference = k.same_reference ∙ same;
      failed = failed_next (state g a.now) (state g b.now) (state g c.now) f (λ x. x) done k.survives r k.failed;
      survives = survives_both (state g a.now) (state g b.now) (state g c.now) survives k.survives;
    }

    -- and the second failed, for which this is returned
    pub done_fails : {T E : Type 0} (r : Result T E) → c.ghost_name ≡ b.ghost_name
        → (HasCleanDisk (state g c.now) → KeepsCommit (state g b.now) (state g c.now))
        → Survives (state g b.now) (state g c.now) (λ _. ⊥) → StaysInside g a c r
    done_fails r next kept later = record {
      same_reference = next ∙ same;
      failed = λ clean. err_kept (state g a.now) (state g b.now) (state g c.now) f r done later (kept clean) clean;
      survives = survives_both (state g a.now) (state g b.now) (state g c.now) survives later;
    }
