-- Sources that are added to tables.
use Rattle.std.proofs.Common.{◌≡◌, ℕ, List, None, sym, subst, ◌∙◌, IsTrue}
use Rattle.sqlite_trees.specs.declared.store.Store.{Ghosts}
use Rattle.nar.specs.Tree.{IsBytes}
use Rattle.paths.specs.Names.{is_store_name}
use Rattle.paths.specs.Path.{source_path}
use Rattle.policy.specs.Settings.{Settings}
use Rattle.model.specs.World.{Path, World}
use Rattle.model.specs.Sound.{IsSound}
use Rattle.tables_outline.specs.Outline.{OutlineValue, outline_of}
use Rattle.model.specs.Tests.{first_failing, source_tests}
use Rattle.model.specs.Adds.{Added, added_source}
use Rattle.model.specs.Effects.{with_object}
use Rattle.model.proofs.SoundAdds.{source_sound}
use Rattle.tables_writes.specs.TablesValue.{TablesValue, HasWorld}
use Rattle.store_types.specs.declared.replies.Stop.{Stop}
use Rattle.store_types.specs.Tested.{Stops}

-- a source passes the tests, and this is its object
abbrev pub IsSource : List ℕ → World → List ℕ → List Path → List ℕ → Added → Type 0
IsSource dir w name refs nar a =
    (first_failing (source_tests dir w (source_path dir name refs nar) refs nar) ≡ None)
    × (a ≡ added_source dir name refs nar)

module _ (name : List ℕ) (refs : List Path) (nar : List ℕ) (o k : OutlineValue) (d e : List ℕ) (same : o ≡ k)
    (dir : d ≡ e) where
  pub source_given : (a : Added) → ((w : World) → outline_of w ≡ o → IsSource d w name refs nar a) → (w : World)
      → outline_of w ≡ k → IsSource e w name refs nar a
  source_given a h w is = subst (λ (x : List ℕ). IsSource x w name refs nar a) dir (h w (is ∙ sym same))

  pub source_stopped : (stop : Stop)
      → ((w : World) → outline_of w ≡ o
      → Stops stop (first_failing (source_tests d w (source_path d name refs nar) refs nar)))
      → (w : World) → outline_of w ≡ k
      → Stops stop (first_failing (source_tests e w (source_path e name refs nar) refs nar))
  source_stopped stop h w is =
      subst (λ (x : List ℕ). Stops stop (first_failing (source_tests x w (source_path x name refs nar) refs nar))) dir
      (h w (is ∙ sym same))

pub source_stays_sound : {S : Type 0} (g : Ghosts S) (k : TablesValue S) (s : Settings) (name : List ℕ)
    (refs : List Path) (nar : List ℕ) (a : Added) → k.dir ≡ s.store_dir
    → IsTrue (is_store_name name) → IsBytes nar
    → ((w : World) → outline_of w ≡ k.outline → IsSource s.store_dir w name refs nar a) → (w : World)
    → HasWorld g k w → IsSound k.dir (with_object w a)
source_stays_sound g k s name refs nar a dir named bytes gives w t =
    subst (λ (d : List ℕ). IsSound d (with_object w a)) (sym dir)
    (subst (λ (x : Added). IsSound s.store_dir (with_object w x)) (sym (gives w t.outline).1)
    (source_sound s w (subst (λ (d : List ℕ). IsSound d w) dir t.sound) name refs nar named bytes
    (gives w t.outline).0))
