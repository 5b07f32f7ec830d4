-- An object that is added to tables, or was there already.
use Rattle.std.proofs.Common.{◌≡◌, ℕ, List, Bool, true, false, None, Result, Ok, Err, refl, sym, ap, subst, ◌∙◌, inl}
use Rattle.std.proofs.Common.{IsTrue}
use Rattle.std.specs.Prelude.{if◌then◌else◌}
use Rattle.std.specs.FinMap as finite
use Rattle.sha2.specs.Sha256.{sha256}
use Rattle.sqlite_trees.specs.declared.store.Store.{Ghosts}
use Rattle.sqlite.specs.State.{HasCleanDisk, Survives}
use Rattle.sqlite.specs.Held.{state}
use Rattle.tables_sql.specs.declared.failure.Failed.{Failed}
use Rattle.policy.specs.Settings.{Settings}
use Rattle.policy.specs.Caller.{Caller}
use Rattle.model.specs.Disk.{puts_rows, touches_disk}
use Rattle.model.specs.World.{Path, World, has}
use Rattle.model.specs.Sound.{IsSound}
use Rattle.tables_outline.specs.Outline.{OutlineValue, Outlined, outline_of, with_archive}
use Rattle.model.specs.Request.{Request}
use Rattle.model.specs.Reply as replied
use Rattle.nar.specs.Tree.{IsBytes}
use Rattle.paths.specs.Names.{is_store_name}
use Rattle.paths.specs.Path.{text_path}
use Rattle.model.specs.Tests.{refusal, first_failing, text_tests}
use Rattle.model.specs.Adds.{Added, added_text}
use Rattle.model.proofs.SoundAdds.{text_sound}
use Rattle.store_types.specs.Tested.{Stops}
use Rattle.model.specs.Effects.{with_object, effect}
use Rattle.model.specs.Answers.{answer}
use Rattle.tables_writes.specs.Reasons.{AreAmong}
use Rattle.tables_writes.specs.RowsPut.{AddedRows}
use Rattle.tables_writes.specs.Writes.{CommitsChange, FailsToChange}
use Rattle.tables_writes.specs.TablesValue.{TablesValue, HasWorld, LeavesWorld}
use Rattle.store_types.specs.declared.replies.Answer.{Answer}
use Rattle.store_types.specs.declared.replies.Answer.TheVariants.{Path as Placed}
use Rattle.store_types.specs.declared.replies.Stop.{Stop}
use Rattle.store_types.specs.declared.replies.Stop.TheVariants.{Refused, Failed as failing}
use Rattle.store_promises.specs.RowsPut.{ObjectRowsPut, rows_put}
use Rattle.store_promises.specs.Meets.{MeetsOver, IsMet}
use Rattle.store_adds.specs.Additions.{Adds, IsAdded}
use Rattle.store_promises.specs.Crashes.{LeavesPassed}
use Rattle.store_promises.proofs.Outlined.{has_outlined}
use Rattle.store_promises.proofs.Caused.{write_fails}
use Rattle.store_promises.proofs.Untouched.{survives_as, survives_still, stays_durable_still, others_shown}
use Rattle.store_promises.proofs.Untouched.{others_still}
use Rattle.store_promises.proofs.Written.{unwritten, written}

module _ {S : Type 0} (g : Ghosts S) (path : Path) (o : Outlined) (k : TablesValue S) where
  abbrev it : List ℕ → Added
  it nar = record { path = path; object = with_archive nar o }

  -- the world with the object
  abbrev put : List ℕ → World → World
  put nar w = record w { objects = finite.insert w.objects path (with_archive nar o) }

  valid_reported : (b : Bool) → finite.contains_key k.outline.objects path ≡ b → (w : World) → HasWorld g k w
      → has w path ≡ b
  valid_reported b e w t =
      sym (has_outlined w path) ∙ ap (λ (x : OutlineValue). finite.contains_key x.objects path) t.outline ∙ e

  -- its path is valid already
  pub added_present : (nar : List ℕ) → finite.contains_key k.outline.objects path ≡ true
      → IsAdded g (it nar) (Ok (Placed path)) k k
  added_present nar e = record {
    dir = refl;
    cause = λ q touches puts among. tt;
    others = others_still g k;
    world =
        λ w t. (
          refl,
          subst (λ (v : World). HasWorld g k v)
              (sym (ap (λ b. if b then w else put nar w) (valid_reported true e w t))) t,
        );
    unrefused = λ h. h;
    stays_durable = λ _. stays_durable_still g k;
    survives = λ w t. survives_still (state g k.connection) _;
  }

  module _ (nar read : List ℕ) (same : read ≡ nar) (absent : finite.contains_key k.outline.objects path ≡ false) where
    grown : (w : World) → HasWorld g k w → with_object w (it nar) ≡ put read w
    grown w t = ap (λ b. if b then w else put nar w) (valid_reported false absent w t) ∙ ap (λ n. put n w) (sym same)

    pub sound_put : ((w : World) → HasWorld g k w → IsSound k.dir (with_object w (it nar))) → (w : World)
        → HasWorld g k w → IsSound k.dir (put read w)
    sound_put sound w t = subst (λ (v : World). IsSound k.dir v) (grown w t) (sound w t)

    module _ (new : TablesValue S) where
      survives_put : ((w : World) → HasWorld g k w
          → Survives (state g k.connection) (state g new.connection)
          (λ db. LeavesWorld k.dir (state g k.connection).now db (put read w)))
          → (w : World) → HasWorld g k w
          → Survives (state g k.connection) (state g new.connection)
          (λ db. LeavesWorld k.dir (state g k.connection).now db (with_object w (it nar)))
      survives_put left w t =
          subst (λ (v : World). Survives (state g k.connection) (state g new.connection)
          (λ db. LeavesWorld k.dir (state g k.connection).now db v)) (sym (grown w t)) (left w t)

      -- it was put
      pub added_new : CommitsChange g k new written (put read) → IsAdded g (it nar) (Ok (Placed path)) k new
      added_new frame = record {
        dir = frame.dir;
        world = λ w t. (refl, subst (λ (v : World). HasWorld g new v) (sym (grown w t)) (frame.done w t));
        unrefused = λ h. h;
        cause = λ q touches puts among. tt;
        others = λ clean is_open. ((frame.was_open clean).0, frame.others clean);
        stays_durable = λ _ clean. let is_open = (frame.was_open clean).1 in inl (is_open, frame.durable is_open);
        survives = survives_put frame.survives;
      }

      -- the call failed
      pub added_not : (f : Failed) → CommitsChange g k new (unwritten f) (put read) → o.hash ≡ sha256 nar
          → FailsToChange g k new (unwritten f) (AddedRows path nar o)
          → IsAdded g (it nar) (Err (failing f)) k new
      added_not f frame hash cause = record {
        dir = frame.dir;
        world = frame.failed;
        unrefused = λ h. h;
        cause = λ q touches puts among.
            write_fails g q k new touches (AddedRows path nar o)
            (subst (λ h. AreAmong (AddedRows path nar (record o { hash = h })) (rows_put k.dir k.outline q))
            (sym hash) among) (λ t row put. puts) (Placed path) (Err f) cause;
        others = others_shown g k new frame.shown;
        stays_durable = λ h. absurd h;
        survives = survives_put frame.survives;
      }

-- a request that adds what was passed
pub met_by_adding : {S : Type 0} (g : Ghosts S) (s : Settings) (c : Caller) (q : Request) (r : Result Answer Stop)
    (k new : TablesValue S) (a asked : Added)
    → ((w : World) → outline_of w ≡ k.outline → (refusal s w q ≡ None) × (a ≡ asked))
    → ((w : World) → effect s w q ≡ with_object w asked) → ((w : World) → answer s w c q ≡ replied.path asked.path)
    → IsTrue (touches_disk q) → IsTrue (puts_rows q) → AreAmong (ObjectRowsPut asked) (rows_put k.dir k.outline q)
    → IsAdded g a r k new → IsMet g s c q r k new
met_by_adding g s c q r k new a asked gives effect_is answer_is touches puts among added = record {
  dir = added.dir;
  world = λ w t. by w t r (added.world w t);
  cause =
      λ w t. added.cause q touches puts
      (subst (λ (x : Added). AreAmong (ObjectRowsPut x) (rows_put k.dir k.outline q)) (sym (gives w t.outline).1)
      among);
  others = added.others;
  still = λ h. absurd (added.unrefused h);
  stays_durable = added.stays_durable;
  survives = λ w t.
      survives_as (state g k.connection) (state g new.connection)
      (λ db. LeavesWorld k.dir (state g k.connection).now db (with_object w a))
      (λ db. LeavesPassed k.dir (state g k.connection).now db s w q)
      (λ db rows. (
        (gives w t.outline).0,
        subst (λ (v : World). LeavesWorld k.dir (state g k.connection).now db v) (becomes w t) rows,
      ))
      (added.survives w t);
}
  where
    becomes : (w : World) → HasWorld g k w → with_object w a ≡ effect s w q
    becomes w t = ap (with_object w) (gives w t.outline).1 ∙ sym (effect_is w)

    by : (w : World) → HasWorld g k w → (x : Result Answer Stop) → Adds g a x w new
        → (next : World) × MeetsOver (HasCleanDisk (state g new.connection)) s w c q x next × HasWorld g new next
    by w t (Ok x) h = (
      effect s w q,
      (
        (gives w t.outline).0,
        λ _. h.0 ∙ ap (λ (y : Added). replied.path y.path) (gives w t.outline).1 ∙ sym (answer_is w),
        refl,
      ),
      subst (λ (v : World). HasWorld g new v) (becomes w t) h.1,
    )
    by w t (Err (failing f)) h = (w, refl, h)
    by w t (Err (Refused x)) h = absurd h

-- ---- texts

-- a text passes the tests, and this is its object
abbrev pub IsText : List ℕ → World → List ℕ → List Path → List ℕ → Added → Type 0
IsText dir w name refs contents a =
    (first_failing (text_tests dir w (text_path dir name refs contents) refs contents) ≡ None)
    × (a ≡ added_text dir name refs contents)

module _ (name : List ℕ) (refs : List Path) (o k : OutlineValue) (d e b contents : List ℕ) (same : o ≡ k) (dir : d ≡ e)
    (bytes : b ≡ contents) where
  pub text_given : (a : Added) → ((w : World) → outline_of w ≡ o → IsText d w name refs b a) → (w : World)
      → outline_of w ≡ k → IsText e w name refs contents a
  text_given a h w is =
      subst (λ (x : List ℕ). IsText x w name refs contents a) dir
      (subst (λ (y : List ℕ). IsText d w name refs y a) bytes (h w (is ∙ sym same)))

  pub text_stopped : (stop : Stop)
      → ((w : World) → outline_of w ≡ o → Stops stop (first_failing (text_tests d w (text_path d name refs b) refs b)))
      → (w : World) → outline_of w ≡ k
      → Stops stop (first_failing (text_tests e w (text_path e name refs contents) refs contents))
  text_stopped stop h w is =
      subst (λ (x : List ℕ). Stops stop (first_failing (text_tests x w (text_path x name refs contents) refs contents)))
      dir
      (subst (λ (y : List ℕ). Stops stop (first_failing (text_tests d w (text_path d name refs y) refs y))) bytes
      (h w (is ∙ sym same)))

pub text_stays_sound : {S : Type 0} (g : Ghosts S) (k : TablesValue S) (s : Settings) (name : List ℕ) (refs : List Path)
    (contents : List ℕ) (a : Added) → k.dir ≡ s.store_dir
    → IsTrue (is_store_name name) → IsBytes contents
    → ((w : World) → outline_of w ≡ k.outline → IsText s.store_dir w name refs contents a) → (w : World)
    → HasWorld g k w → IsSound k.dir (with_object w a)
text_stays_sound g k s name refs contents a dir named bytes gives w t =
    subst (λ (d : List ℕ). IsSound d (with_object w a)) (sym dir)
    (subst (λ (x : Added). IsSound s.store_dir (with_object w x)) (sym (gives w t.outline).1)
    (text_sound s w (subst (λ (d : List ℕ). IsSound d w) dir t.sound) name refs contents named bytes
    (gives w t.outline).0))
