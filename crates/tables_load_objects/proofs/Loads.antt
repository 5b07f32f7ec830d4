-- What loading promises, at each of its ways out.
use Rattle.std.proofs.Common.{◌≡◌, Bool, true, false, Result, Ok, Err, IsErrAnd, IfOk, refl}
use Rattle.std.proofs.lemmas.Bool.{false≢true}
use Rattle.sqlite_trees.specs.declared.store.Store.{Ghosts}
use Rattle.sqlite.specs.State.{HasCleanDisk}
use Rattle.sqlite.specs.Held.{Held, state}
use Rattle.tables_sql.specs.Contents.{Contents, contents_of}
use Rattle.tables_sql.specs.declared.failure.Failed.{Failed}
use Rattle.tables_rows.specs.Frames.{ReadsOnly}
use Rattle.tables_load_objects.specs.Loading.{Loads}

not_ok : {T : Type 0} (r : Result T Failed) (e : Failed) (P : T → Type 0) → IsErrAnd r (λ f. f ≡ e) → IfOk r P
not_ok (Ok x) e P is = absurd is
not_ok (Err f) e P is = tt

module _ {S : Type 0} {g : Ghosts S} {T : Type 0} (a b : Held S) (now : T) (AreSound : Contents → Type 0)
    (of : Contents → T) where
  -- an error that is passed on
  pub load_failed : (r : Result Bool Failed) (e : Failed) → IsErrAnd r (λ f. f ≡ e) → ReadsOnly g a b r
      → Loads g a b r now AreSound of
  load_failed r e is read = record {
    read = read;
    reported = λ _. not_ok r e _ is;
    loaded = λ _. not_ok r e _ is;
  }

  -- something isn't sound
  pub load_stopped : ReadsOnly g a b (Ok false)
      → (HasCleanDisk (state g b) → AreSound (contents_of (state g a).now) → ⊥) → Loads g a b (Ok false) now AreSound of
  load_stopped read unsound = record {
    read = read;
    reported = λ clean. (λ h. absurd (false≢true h), λ sound. absurd (unsound clean sound));
    loaded = λ _ h. absurd (false≢true h);
  }

  -- all is sound
  pub load_done : ReadsOnly g a b (Ok true) → (HasCleanDisk (state g b) → AreSound (contents_of (state g a).now))
      → (HasCleanDisk (state g b) → now ≡ of (contents_of (state g a).now))
      → Loads g a b (Ok true) now AreSound of
  load_done read sound made = record {
    read = read;
    reported = λ clean. (λ _. sound clean, λ _. refl);
    loaded = λ clean _. made clean;
  }
