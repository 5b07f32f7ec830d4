-- A request that is answered from the disk.
use Rattle.std.proofs.Common.{◌≡◌, ℕ, List, Some, None, Option, Result, Ok, Err, refl, sym, ap, subst, ◌∙◌, IsTrue}
use Rattle.std.specs.Prelude.{IfErr, is_some, option_map}
use Rattle.std.specs.FinMap as finite
use Rattle.std.proofs.lemmas.Bool.{false≢true}
use Rattle.nar.specs.Tree.{Tree, IsBytes}
use Rattle.nar.specs.Archive.{archive, IsArchive}
use Rattle.nar.specs.Outcome.{outcome_of}
use Rattle.nar.specs.declared.error.NarError.{NarError}
use Rattle.nar.proofs.Bytes.{archive_bytes}
use Rattle.nar.proofs.Files.{spelling_bytes}
use Rattle.nar.proofs.Decided.{outcome_archive}
use Rattle.sqlite_trees.specs.declared.store.Store.{Ghosts}
use Rattle.sqlite.specs.State.{State, HasCleanDisk}
use Rattle.sqlite.specs.Held.{state}
use Rattle.tables_sql.specs.Failures.{FailsToRead}
use Rattle.tables_sql.specs.declared.failure.Failed.{Failed}
use Rattle.tables_sql.specs.declared.failure.Failed.TheVariants.{Memory, Size, Disk}
use Rattle.policy.specs.Settings.{Settings}
use Rattle.policy.specs.Caller.{Caller}
use Rattle.model.specs.World.{Object, Path, World, has}
use Rattle.model.specs.Answers.{archive_at, listing_at}
use Rattle.model.specs.Request.{Request}
use Rattle.model.specs.Sound.{IsSound}
use Rattle.tables_writes.specs.TablesValue.{TablesValue, HasWorld}
use Rattle.store_types.specs.declared.replies.Answer.{Answer}
use Rattle.store_types.specs.declared.replies.Stop.{Stop}
use Rattle.store_promises.specs.Causes.{HasCause}
use Rattle.store_promises.specs.Meets.{IsMet, IsRefused, MeetsOver, OnlyReads, reply_to}
use Rattle.store_promises.proofs.Untouched.{others_shown, survives_as}
use Rattle.store.specs.Listing.{FailsToList, Lists}

module _ {S : Type 0} (g : Ghosts S) (s : Settings) (c : Caller) (q : Request) (old new : TablesValue S) where
  pub met_by_disk : (r : Result Answer Stop) → OnlyReads g old new → (IsRefused r → ⊥)
      → ((w : World) → HasWorld g old w → HasCause g q (reply_to r) old new)
      → ((w : World) → HasWorld g old w → MeetsOver (HasCleanDisk (state g new.connection)) s w c q r w)
      → IsMet g s c q r old new
  met_by_disk r it unrefused cause h = record {
    dir = it.dir;
    world = λ w t. (w, h w t, it.reported w t);
    cause = cause;
    others = others_shown g old new it.shown;
    still = λ refused. absurd (unrefused refused);
    stays_durable = λ _. it.stays_durable;
    survives =
        λ w t. survives_as (state g old.connection) (state g new.connection) (λ _. ⊥) _ (λ db none. absurd none)
        it.survives;
  }

-- ---- what a sound world has of a valid path

abbrev nar_of : Object → List ℕ
nar_of o = o.nar

-- it has an archive
pub archive_present : (w : World) (p : Path) → IsTrue (has w p) → None ≡ option_map nar_of (finite.get w.objects p) → ⊥
archive_present w p valid none = by (finite.get w.objects p) valid none
  where
    by : (o : Option Object) → IsTrue (is_some o) → None ≡ option_map nar_of o → ⊥
    by None v n = false≢true v
    by (Some o) v n = false≢true (ap is_some n)

-- the bytes of an archive are read as its tree
is_read : (t : Tree) (nar : List ℕ) → IsArchive t nar → outcome_of nar ≡ Ok t
is_read t nar a =
    (outcome_archive nar t (subst IsBytes (sym a.spells) (spelling_bytes (archive t) (archive_bytes t a.legal)))).1 a

-- the listing of an archive is the one that is answered
pub listed : (outcome : Result Tree NarError) (text : List ℕ) → Lists outcome text → text ≡ listing_at outcome
listed (Ok t) text is = is
listed (Err e) text is = absurd is

-- its archive is listed, unless memory runs out
pub lists : {A : Type 0} (old new : State) (dir : List ℕ) (w : World) → IsSound dir w → (p : Path) → IsTrue (has w p)
    → (nar : List ℕ) → nar ≡ archive_at (finite.get w.objects p) → (r : Result A Failed)
    → IfErr r (λ f. FailsToList f (outcome_of nar)) → IfErr r (FailsToRead old new)
lists {A} old new dir w sound p valid nar is r h = by (finite.get w.objects p) refl valid r h
  where
    reported : (t : Tree) → outcome_of nar ≡ Ok t → (r : Result A Failed)
        → IfErr r (λ f. FailsToList f (outcome_of nar)) → IfErr r (FailsToRead old new)
    reported t read (Ok text) h = tt
    reported t read (Err Memory) h = tt
    reported t read (Err Size) h = absurd h
    reported t read (Err Disk) h = absurd (subst (FailsToList Disk) read h)

    by : (o : Option Object) → finite.get w.objects p ≡ o → IsTrue (is_some o) → (r : Result A Failed)
        → IfErr r (λ f. FailsToList f (outcome_of nar)) → IfErr r (FailsToRead old new)
    by None e v r h = absurd (false≢true v)
    by (Some o) e v r h =
        let object = sound.objects p o e in
        reported object.tree (ap outcome_of (is ∙ ap archive_at e) ∙ is_read object.tree o.nar object.archive) r h
