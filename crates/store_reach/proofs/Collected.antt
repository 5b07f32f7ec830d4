-- What is left where the dead go, and where the named go with all that refer to them.
use Rattle.std.proofs.Common.{◌≡◌, List, false, not, ap, ◌∙◌, Bool, Option, Some, None, ℕ}
use Rattle.std.specs.List.{list_any}
use Rattle.std.proofs.lemmas.Bool.{not_from_false}
use Rattle.policy.specs.Settings.{Settings}
use Rattle.model.specs.World.{Path, World, Objects}
use Rattle.model.specs.Sound.{IsSound}
use Rattle.model.specs.Liveness.{collected_paths, dead_paths, deleted_paths, is_deleted_with, lives}
use Rattle.model.specs.Effects.{effect, keeping}
use Rattle.model.specs.Request.{collect}
use Rattle.model.proofs.Deleting.{reference_left}
use Rattle.model.proofs.Pins.{stays}
use Rattle.model.proofs.SoundRemoval.{collected_sound, limited_sound, removed_sound}
use Rattle.tables_writes.proofs.Chosen.{with_chosen, without_chosen}
use Rattle.store_reach.specs.Removal.{without}

-- without the dead the living are left
pub living_left : (s : Settings) (w : World) (dead : List Path) → dead ≡ dead_paths s w
    → without w dead ≡ keeping w (lives s w)
living_left s w dead are =
    ap (without w) are ∙ ap (λ (m : Objects). record w { objects = m }) (with_chosen w.objects (lives s w))

-- without what is collected that is left which a collection leaves
pub collected_left : (s : Settings) (w : World) (ignores : Bool) (limit : Option ℕ) (found : List Path)
    → found ≡ collected_paths s w limit → without w found ≡ effect s w (collect ignores limit)
collected_left s w ignores None found are = living_left s w found are
collected_left s w ignores (Some limit) found are = ap (without w) are

pub sound_left : (s : Settings) (w : World) (ignores : Bool) (limit : Option ℕ) (dir : List ℕ) → IsSound dir w
    → IsSound dir (effect s w (collect ignores limit))
sound_left s w ignores None dir sound = collected_sound s w dir sound
sound_left s w ignores (Some limit) dir sound = limited_sound s w dir sound limit

-- without the deleted those are left that don't go with the named
pub others_left : (w : World) (named found : List Path) → found ≡ deleted_paths w named
    → without w found ≡ keeping w (λ p. not (is_deleted_with w named p))
others_left w named found are =
    ap (without w) are ∙ ap (λ (m : Objects). record w { objects = m })
    (without_chosen w.objects (is_deleted_with w named))

-- where the named are dead, the world is sound without them and all that refer to them
pub deleted_sound : (s : Settings) (w : World) (named : List Path) → list_any (lives s w) named ≡ false → (dir : List _)
    → IsSound dir w → IsSound dir (keeping w (λ p. not (is_deleted_with w named p)))
deleted_sound s w named dead dir sound =
    removed_sound s w (λ p. not (is_deleted_with w named p))
    (λ p h. not_from_false (is_deleted_with w named p) (stays s w named p dead h)) (reference_left w named) dir
    sound
