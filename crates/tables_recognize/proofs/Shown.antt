-- What a connection shows after several tests, one after another.
use Rattle.std.proofs.Common.{◌≡◌, inl, inr, false, sym, ◌∙◌, Result, Ok, Err, IsErrAnd, IfOk, IsTrue}
use Rattle.std.specs.Prelude.{OnOk}
use Rattle.sqlite_trees.specs.declared.store.Store.{Ghosts}
use Rattle.sqlite.specs.State.{State, HasCleanDisk, Survives}
use Rattle.sqlite.specs.Held.{Held, state}
use Rattle.tables_sql.specs.Calls.{KeepsShown}
use Rattle.tables_sql.specs.Failures.{FailsToTest}
use Rattle.tables_sql.specs.declared.failure.Failed.{Failed}
use Rattle.tables_sql.specs.declared.failure.Failed.TheVariants.{Memory, Size, Disk}
use Rattle.tables_sql.proofs.Steps.{clean_before}
use Rattle.tables_recognize.specs.Tests.{IsSettled, LeavesShown}

pub shown_then : (a b c : State) → KeepsShown a b → KeepsShown b c → KeepsShown a c
shown_then a b c h k = record {
  was_open = λ up. h.was_open (k.was_open up);
  now = λ up. k.now up ∙ h.now (k.was_open up);
  committed = λ up. k.committed up ∙ h.committed (k.was_open up);
}

-- what it shows is still what the last commit left
pub settled_then : (a b : State) → (IsTrue a.is_open → a.now ≡ a.committed) → KeepsShown a b → IsTrue b.is_open
    → b.now ≡ b.committed
settled_then a b settled h up = h.now up ∙ settled (h.was_open up) ∙ sym (h.committed up)

-- a query of a settled connection
pub left_shown : {S : Type 0} (g : Ghosts S) (old new : Held S) → IsSettled g old
    → (old.in_transaction ≡ false → new.in_transaction ≡ false)
    → (HasCleanDisk (state g new) → (IsTrue (state g old).is_open → (state g old).now ≡ (state g old).committed)
    → KeepsShown (state g old) (state g new))
    → Survives (state g old) (state g new) (λ _. ⊥) → LeavesShown g old new
left_shown g old new settled idle same survives = record {
  idle = idle settled.idle;
  same = λ clean. same clean (settled.settled (clean_before _ _ _ survives clean));
  survives = survives;
}

-- ---- an error that is passed on is no answer

pub not_ok : {T : Type 0} (r : Result T Failed) (e : Failed) (P : Type 0) → IsErrAnd r (λ f. f ≡ e) → OnOk r P
not_ok (Ok x) e P is = absurd is
not_ok (Err f) e P is = tt

pub not_found : {T : Type 0} (r : Result T Failed) (e : Failed) (P : T → Type 0) → IsErrAnd r (λ f. f ≡ e) → IfOk r P
not_found (Ok x) e P is = absurd is
not_found (Err f) e P is = tt

-- what a test fails for that finds nothing, any test may fail for
pub fails_for : (old new : State) (found : Type 0) (f : Failed) → FailsToTest old new ⊥ f → FailsToTest old new found f
fails_for old new found Memory h = tt
fails_for old new found Size h = h
fails_for old new found Disk (inl h) = inl h
fails_for old new found Disk (inr (inl h)) = inr (inl h)
fails_for old new found Disk (inr (inr h)) = absurd h
