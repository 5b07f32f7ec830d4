-- Several reads, one after another, and what they promise together.
use Rattle.std.proofs.Common.{◌≡◌, Result, Ok, Err, IsErrAnd, IfOk}
use Rattle.std.specs.Prelude.{OnOk}
use Rattle.sqlite_trees.specs.declared.store.Store.{Ghosts}
use Rattle.sqlite.specs.State.{State, HasCleanDisk, IsUnchanged}
use Rattle.sqlite.specs.Held.{Held, state}
use Rattle.sqlite.proofs.Callers.{unchanged_then}
use Rattle.tables_sql.specs.declared.failure.Failed.{Failed}
use Rattle.tables_sql.specs.declared.failure.Failed.TheVariants.{Memory}
use Rattle.tables_sql.specs.Contents.{Contents, contents_of}
use Rattle.tables_sql.specs.Failures.{FailsFor, FailsToRead}
use Rattle.tables_sql.proofs.Steps.{clean_before}
use Rattle.tables_sql.proofs.TestFailures.{both_keep, survives_both, passed_on, read_fails, read_passed, memory_passed}
use Rattle.tables_sql.proofs.TestFailures.{read_then}
use Rattle.tables_rows.specs.Frames.{LeftAsItWas, Reads, FailsWithCause, ReadsOnly, FindsInReads}

not_ok : {T : Type 0} (r : Result T Failed) (e : Failed) (P : Type 0) → IsErrAnd r (λ f. f ≡ e) → OnOk r P
not_ok (Ok x) e P is = absurd is
not_ok (Err f) e P is = tt

not_found : {T : Type 0} (r : Result T Failed) (e : Failed) (P : T → Type 0) → IsErrAnd r (λ f. f ≡ e) → IfOk r P
not_found (Ok x) e P is = absurd is
not_found (Err f) e P is = tt

of_found : {T : Type 0} (r : Result T Failed) (P : Type 0) (Q : T → Type 0) → IfOk r (λ x. P × Q x) → OnOk r P
of_found (Ok x) P Q h = h.0
of_found (Err f) P Q h = tt

unchanged_next : {T : Type 0} (r : Result T Failed) (a b c : State) → IsUnchanged a b → OnOk r (IsUnchanged b c)
    → OnOk r (IsUnchanged a c)
unchanged_next (Ok x) a b c first next = unchanged_then a b c first next
unchanged_next (Err f) a b c first next = tt

module _ {S : Type 0} {g : Ghosts S} where
  -- two leave a connection as one does
  pub left_then : (a b c : Held S) → LeftAsItWas g a b → LeftAsItWas g b c → LeftAsItWas g a c
  left_then a b c first next = record {
    idle = next.idle;
    same = both_keep (state g a) (state g b) (state g c) first.same next.same next.survives;
    ready = next.ready;
    survives = survives_both (state g a) (state g b) (state g c) first.survives next.survives;
  }

  -- ---- an error that is passed on

  -- of one read
  pub one_failed : {T : Type 0} (a b : Held S) (r : Result T Failed) (e : Failed) → IsErrAnd r (λ f. f ≡ e)
      → LeftAsItWas g a b → (HasCleanDisk (state g b) → FailsFor (state g a) (state g b) e) → ReadsOnly g a b r
  one_failed a b r e is left cause = record {
    frame = left;
    unchanged = λ _. not_ok r e _ is;
    cause = λ clean. read_passed (state g a) (state g b) r e is (cause clean);
  }

  -- of several
  pub several_failed : {T : Type 0} (a b : Held S) (r : Result T Failed) (e : Failed) → IsErrAnd r (λ f. f ≡ e)
      → LeftAsItWas g a b → (HasCleanDisk (state g b) → FailsToRead (state g a) (state g b) e) → ReadsOnly g a b r
  several_failed a b r e is left cause = record {
    frame = left;
    unchanged = λ _. not_ok r e _ is;
    cause = λ clean. passed_on r e (FailsToRead (state g a) (state g b)) is (cause clean);
  }

  -- no memory was left for what was read
  pub memory_failed : {T : Type 0} (a b : Held S) (r : Result T Failed) → IsErrAnd r (λ f. f ≡ Memory)
      → LeftAsItWas g a b → ReadsOnly g a b r
  memory_failed a b r is left = record {
    frame = left;
    unchanged = λ _. not_ok r Memory _ is;
    cause = λ clean. memory_passed (state g a) (state g b) r is;
  }

  -- ---- further reads, after some that were done

  pub reads_then : {T : Type 0} (a b c : Held S) (r : Result T Failed) → LeftAsItWas g a b
      → (HasCleanDisk (state g b) → IsUnchanged (state g a) (state g b)) → ReadsOnly g b c r → ReadsOnly g a c r
  reads_then a b c r left same next = record {
    frame = left_then a b c left next.frame;
    unchanged =
        λ clean. unchanged_next r (state g a) (state g b) (state g c)
        (same (clean_before (state g b) (state g c) _ next.frame.survives clean)) (next.unchanged clean);
    cause =
        λ clean. read_then (state g a) (state g b) (state g c) r same left.survives next.frame.survives clean
        (next.cause clean);
  }

  -- the answer is another, and nothing else is
  pub reads_done : {T U : Type 0} (a b : Held S) (x : T) (y : U) → ReadsOnly g a b (Ok x) → ReadsOnly g a b (Ok y)
  reads_done a b x y done = record { frame = done.frame; unchanged = done.unchanged; cause = λ _. tt }

  -- ---- reads that find something

  pub finds_one : {T : Type 0} (a b : Held S) (r : Result T Failed) (shows : Contents → T → Type 0) → LeftAsItWas g a b
      → Reads g a b r shows → FailsWithCause g a b r → FindsInReads g a b r shows
  finds_one a b r shows left reads cause = record {
    frame = left;
    reads = reads;
    cause = λ clean. read_fails (state g a) (state g b) r (cause clean);
  }

  pub finds_alone : {T : Type 0} (a b : Held S) (r : Result T Failed) (shows : Contents → T → Type 0)
      → FindsInReads g a b r shows → ReadsOnly g a b r
  finds_alone a b r shows found = record {
    frame = found.frame;
    unchanged =
        λ clean. of_found r (IsUnchanged (state g a) (state g b)) (shows (contents_of (state g a).now))
        (found.reads clean);
    cause = found.cause;
  }

  pub finds_failed : {T : Type 0} (a b : Held S) (r : Result T Failed) (e : Failed) (shows : Contents → T → Type 0)
      → IsErrAnd r (λ f. f ≡ e) → ReadsOnly g a b r → FindsInReads g a b r shows
  finds_failed a b r e shows is reads = record {
    frame = reads.frame;
    reads = λ _. not_found r e _ is;
    cause = reads.cause;
  }
