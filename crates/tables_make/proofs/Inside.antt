-- What two calls of one transaction keep of it, one after another.
use Rattle.std.proofs.Common.{Result, Ok, Err, ◌∙◌}
use Rattle.std.specs.Prelude.{OnOk, OnErr}
use Rattle.std.specs.Borrow.{MutBor}
use Rattle.sqlite_trees.specs.declared.store.Store.{Ghosts}
use Rattle.sqlite.specs.State.{State, KeepsCommit}
use Rattle.sqlite.specs.Held.{Held, state}
use Rattle.tables_sql.specs.Contents.{Contents}
use Rattle.tables_sql.specs.Calls.{Changes}
use Rattle.tables_sql.proofs.TestFailures.{survives_both}
use Rattle.tables_sql.specs.declared.failure.Failed.{Failed}
use Rattle.tables_rows.specs.Frames.{Makes, StaysInside}
use Rattle.tables_make.specs.Commits.{KeepsInside}
use Rattle.tables_make.proofs.CallsInTurn.{both_keep_commit}

-- a write commits nothing, whether it succeeds or fails
write_keeps : {A E : Type 0} (a b : State) (f : Contents → Contents) (r : Result A E) → OnOk r (Changes a b f)
    → OnErr r (KeepsCommit a b) → KeepsCommit a b
write_keeps a b f (Ok v) done failed = record { was_open = λ up. done.was_open; committed = λ up. done.committed }
write_keeps a b f (Err e) done failed = failed

module _ {S : Type 0} (g : Ghosts S) (a b c : MutBor (Held S)) where
  -- each of them commits nothing
  pub both_keep : KeepsInside g a b → KeepsInside g b c → KeepsInside g a c
  both_keep h k = record {
    same_reference = k.same_reference ∙ h.same_reference;
    kept = both_keep_commit (state g a.now) (state g b.now) (state g c.now) h.kept k.kept k.survives;
    survives = survives_both (state g a.now) (state g b.now) (state g c.now) h.survives k.survives;
  }

  -- the second was a write of rows
  pub write_after : {T : Type 0} (f : Contents → Contents) (r : Result T Failed) → KeepsInside g a b
      → StaysInside g b c r → Makes g b c r f → KeepsInside g a c
  write_after f r h k done =
      both_keep h (record {
        same_reference = k.same_reference;
        kept = λ clean. write_keeps (state g b.now) (state g c.now) f r (done clean) (k.failed clean);
        survives = k.survives;
      })
