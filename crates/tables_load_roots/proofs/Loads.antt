-- Loads of roots, one after another, and what they promise together.
use Rattle.std.proofs.Common.{◌≡◌, Bool, true, false, ◌&&◌, Result, Ok, Err, IsErrAnd, IfOk, sym, ap, ◌∙◌}
use Rattle.std.proofs.lemmas.Bool.{false≢true}
use Rattle.sqlite_trees.specs.declared.store.Store.{Ghosts}
use Rattle.sqlite.specs.Held.{Held, state}
use Rattle.tables_sql.specs.Contents.{Contents, contents_of}
use Rattle.tables_sql.specs.declared.failure.Failed.{Failed}
use Rattle.tables_sql.proofs.Steps.{clean_before}
use Rattle.tables_rows.specs.Frames.{ReadsOnly}
use Rattle.tables_rows.proofs.Several.{reads_done, reads_then}
use Rattle.tables_outline.specs.Outline.{OutlineValue}
use Rattle.tables_load_roots.specs.Loaded.{Objects}
use Rattle.tables_load_roots.specs.Loading.{Loads}
use Rattle.tables_load_roots.proofs.TwoReads.{reported_next, read_next}

not_ok : {T : Type 0} (r : Result T Failed) (e : Failed) (P : T → Type 0) → IsErrAnd r (λ f. f ≡ e) → IfOk r P
not_ok (Ok x) e P is = absurd is
not_ok (Err f) e P is = tt

module _ {S : Type 0} {g : Ghosts S} where
  -- an error that is passed on
  pub failed_load : (a b : Held S) (r : Result Bool Failed) (e : Failed) (o p : OutlineValue)
      (sound : Objects → Contents → Bool) (with_rows : OutlineValue → Contents → OutlineValue)
      → IsErrAnd r (λ f. f ≡ e) → ReadsOnly g a b r → Loads g a b r o p sound with_rows
  failed_load a b r e o p sound with_rows is read = record {
    read = read;
    reported = λ _. not_ok r e _ is;
    loaded = λ _. not_ok r e _ is;
  }

  module _ (a b : Held S) (o p : OutlineValue) (sound : Objects → Contents → Bool)
      (with_rows : OutlineValue → Contents → OutlineValue) (ok : Bool)
      (first : Loads g a b (Ok ok) o p sound with_rows) where
    -- the first of two finds roots that aren't sound
    pub load_stops : (more : Objects → Contents → Bool) (with_all : OutlineValue → Contents → OutlineValue) → ok ≡ false
        → Loads g a b (Ok false) o p (λ objects x. sound objects x && more objects x) with_all
    load_stops more with_all failed = record {
      read = reads_done _ _ _ _ first.read;
      reported =
          λ clean. sym (ap (λ t. t && more o.objects (contents_of (state g a).now))
          (sym (first.reported clean) ∙ failed));
      loaded = λ _ no. absurd (false≢true no);
    }

    -- it finds that all are sound, and the second decides
    pub load_goes_on : (c : Held S) (r : Result Bool Failed) (q : OutlineValue) (more : Objects → Contents → Bool)
        (with_more : OutlineValue → Contents → OutlineValue) → ok ≡ true
        → ((x : Contents) → (with_rows o x).objects ≡ o.objects) → Loads g b c r p q more with_more
        → Loads g a c r o q (λ objects x. sound objects x && more objects x) (λ u x. with_more (with_rows u x) x)
    load_goes_on c r q more with_more passed same_objects next =
        let early = clean_before (state g b) (state g c) _ next.read.frame.survives in
        record {
          read = reads_then _ _ _ r first.read.frame first.read.unchanged next.read;
          reported = λ clean.
              let same = (first.read.unchanged (early clean)).0.now_is in
              let outline = first.loaded (early clean) passed in
              reported_next r (sound o.objects (contents_of (state g a).now)) _ _
              (sym (first.reported (early clean)) ∙ passed)
              ((λ i. more (outline i).objects (contents_of (same i)))
              ∙ ap (λ m. more m (contents_of (state g a).now)) (same_objects (contents_of (state g a).now)))
              (next.reported clean);
          loaded = λ clean.
              let same = (first.read.unchanged (early clean)).0.now_is in
              let outline = first.loaded (early clean) passed in
              read_next r q _ _ (λ i. with_more (outline i) (contents_of (same i))) (next.loaded clean);
        }
