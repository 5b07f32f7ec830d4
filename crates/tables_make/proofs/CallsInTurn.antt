-- What several calls keep of a connection, one after another.
use Rattle.std.proofs.Common.{inl, inr, ◌∙◌, arith}
use Rattle.std.specs.Prelude.{◌⊎◌}
use Rattle.sqlite.specs.State.{State, HasCleanDisk, IsRolledBack, IsUnchanged, KeepsCommit, Survives}
use Rattle.tables_sql.proofs.Scans.{unchanged_keeps}

-- a statement that a transaction refuses commits nothing
pub refused_keeps : (old new : State) (Ran Ends Is : Type 0)
    → (Ran × (IsUnchanged old new ⊎ IsRolledBack old new)) ⊎ (Ends × Is × IsUnchanged old new) → KeepsCommit old new
refused_keeps old new Ran Ends Is (inl (ran, inl same)) = unchanged_keeps old new same
refused_keeps old new Ran Ends Is (inl (ran, inr back)) =
    record { was_open = back.was_open; committed = λ up. (back.undone up).1 }
refused_keeps old new Ran Ends Is (inr (ends, is, same)) = unchanged_keeps old new same

-- each of two keeps what the last commit left
pub both_keep_commit : (a b c : State) → (HasCleanDisk b → KeepsCommit a b) → (HasCleanDisk c → KeepsCommit b c)
    → Survives b c (λ _. ⊥) → HasCleanDisk c → KeepsCommit a c
both_keep_commit a b c first next survives clean =
    let h = first (omega (arith, survives.clean, clean)) in
    let k = next clean in
    record {
      was_open = λ is_open. h.was_open (k.was_open is_open);
      committed = λ is_open. k.committed is_open ∙ h.committed (k.was_open is_open);
    }
