-- What an outline says of sizes.
use Rattle.std.proofs.Common.{◌≡◌, ℕ, List, length, Option, Some, None, option_map, refl, sym, ap, ◌∙◌}
use Rattle.std.specs.List.{sum_by}
use Rattle.std.specs.Option.{option_map_or}
use Rattle.std.specs.FinMap as finite
use Rattle.model.specs.World.{Path, Object, World}
use Rattle.tables_outline.specs.Outline.{OutlineValue, Outlined, outlined, outline_of}
use Rattle.tables_outline.proofs.Orders.{bytes_total, bytes_antisymmetric}
use Rattle.tables_outline.proofs.Reported.{get-reported}
use Rattle.model.specs.Liveness as spec
use Rattle.store_reach.specs.Sizes.{bytes_within, size_in}

abbrev size : Option Outlined → ℕ
size o = option_map_or (λ x. x.size) o 0

outlined_size : (o : Option Object) → size (option_map outlined o) ≡ option_map_or (λ x. length x.nar) o 0
outlined_size None = refl
outlined_size (Some o) = refl

size_reported : (w : World) → size_in (outline_of w) ≡ spec.size_of w
size_reported w =
    λ i p. (ap size (get-reported bytes_total bytes_antisymmetric (λ _ x. outlined x) w.objects p)
    ∙ outlined_size (finite.get w.objects p)) i

pub sizes_reported : (w : World) (o : OutlineValue) → outline_of w ≡ o → size_in o ≡ spec.size_of w
sizes_reported w o is = ap (λ (x : OutlineValue). size_in x) (sym is) ∙ size_reported w

pub bytes_reported : (w : World) (o : OutlineValue) → outline_of w ≡ o → (ps : List Path)
    → bytes_within o ps ≡ spec.bytes_in w ps
bytes_reported w o is ps =
    ap (λ (x : OutlineValue). bytes_within x ps) (sym is) ∙ ap (λ f. sum_by f ps) (size_reported w)

-- what is found by a reference
pub size_found : (o : OutlineValue) (p : Path) (found : Option Outlined) → found ≡ finite.get o.objects p
    → size found ≡ size_in o p
size_found o p found e = ap size e
