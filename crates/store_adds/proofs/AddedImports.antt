-- Imports that are added to tables.
use Rattle.std.proofs.Common.{◌≡◌, ℕ, List, None, sym, subst, ◌∙◌}
use Rattle.sqlite_trees.specs.declared.store.Store.{Ghosts}
use Rattle.policy.specs.Settings.{Settings}
use Rattle.model.specs.World.{World}
use Rattle.model.specs.Sound.{IsSound}
use Rattle.tables_outline.specs.Outline.{OutlineValue, outline_of}
use Rattle.model.specs.Request.{Imported}
use Rattle.model.specs.Soundness.{IsWellFormedImport}
use Rattle.model.specs.Tests.{first_failing, import_tests}
use Rattle.model.specs.Adds.{Added, added_import}
use Rattle.model.specs.Effects.{with_object}
use Rattle.model.proofs.SoundAdds.{import_sound}
use Rattle.tables_writes.specs.TablesValue.{TablesValue, HasWorld}
use Rattle.store_types.specs.declared.replies.Stop.{Stop}
use Rattle.store_types.specs.Tested.{Stops}

-- an import passes the tests, and this is its object
abbrev pub IsImport : List ℕ → World → Imported → Added → Type 0
IsImport dir w i a = (first_failing (import_tests dir w i) ≡ None) × (a ≡ added_import dir i)

module _ (i : Imported) (o k : OutlineValue) (d e : List ℕ) (same : o ≡ k) (dir : d ≡ e) where
  pub import_given : (a : Added) → ((w : World) → outline_of w ≡ o → IsImport d w i a) → (w : World) → outline_of w ≡ k
      → IsImport e w i a
  import_given a h w is = subst (λ (x : List ℕ). IsImport x w i a) dir (h w (is ∙ sym same))

  pub import_stopped : (stop : Stop)
      → ((w : World) → outline_of w ≡ o → Stops stop (first_failing (import_tests d w i)))
      → (w : World) → outline_of w ≡ k → Stops stop (first_failing (import_tests e w i))
  import_stopped stop h w is =
      subst (λ (x : List ℕ). Stops stop (first_failing (import_tests x w i))) dir (h w (is ∙ sym same))

pub import_stays_sound : {S : Type 0} (g : Ghosts S) (k : TablesValue S) (s : Settings) (i : Imported) (a : Added)
    → k.dir ≡ s.store_dir
    → IsWellFormedImport i → ((w : World) → outline_of w ≡ k.outline → IsImport s.store_dir w i a) → (w : World)
    → HasWorld g k w → IsSound k.dir (with_object w a)
import_stays_sound g k s i a dir formed gives w t =
    subst (λ (d : List ℕ). IsSound d (with_object w a)) (sym dir)
    (subst (λ (x : Added). IsSound s.store_dir (with_object w x)) (sym (gives w t.outline).1)
    (import_sound s w (subst (λ (d : List ℕ). IsSound d w) dir t.sound) i formed (gives w t.outline).0))
