-- Whether the references of an object are all valid.
use Rattle.std.proofs.Common.{◌||◌, ◌≡◌, List, sym, ap, ◌∙◌}
use Rattle.std.specs.List.{list_all}
use Rattle.model.specs.World.{Path, World}
use Rattle.tables_outline.specs.Outline.{OutlineValue, outline_of}
use Rattle.model.specs.Tests.{is_complete}
use Rattle.live.specs.Graph.{same}
use Rattle.store_adds.specs.Parts.{is_complete_in}
use Rattle.store_promises.proofs.Outlined.{has_outlined}

-- whether references are all there
pub complete_by : (o : OutlineValue) (w : World) (p : Path) (refs : List Path) → outline_of w ≡ o
    → is_complete w p refs ≡ is_complete_in o p refs
complete_by o w p refs is =
    (λ i. sym (has_outlined w p) i || list_all (λ r. sym (has_outlined w r) i || same r p) refs)
    ∙ ap (λ (x : OutlineValue). is_complete_in x p refs) is
