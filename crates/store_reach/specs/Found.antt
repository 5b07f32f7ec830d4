-- Paths that are removed, or a denial that shows what keeps them.
use Rattle.std.specs.Prelude.{◌≡◌, ℕ, Bool, true, false, List, Option, Some, None, String}
use Rattle.std.specs.List.{list_any}
use Rattle.std.specs.declared.alloc.Global.{Global}
use Rattle.policy.specs.Operation as operations
use Rattle.policy.specs.declared.kinds.Rule.TheVariants.{Live}
use Rattle.policy.specs.Settings.{Settings}
use Rattle.policy.specs.Caller.{Caller}
use Rattle.model.specs.World.{Path, World}
use Rattle.tables_outline.specs.Maps.{labelled_bytes}
use Rattle.model.specs.Request.{Request}
use Rattle.model.specs.Liveness.{lives}
use Rattle.model.specs.Verdict.{named_in, operation_of, shown}
use Rattle.store_reach.specs.declared.removal.Found.{Found}

-- paths, and the sum of the bytes of their archives
abbrev pub found_view : Found → List Path × ℕ
found_view f = (f.paths.items, f.bytes)

-- whether a request deletes paths by name, as the rules ask
abbrev pub deletes : Request → Bool
deletes q = operations.deletes (operation_of q)

-- the root that a denial shows, if a path that a request names is live; else nothing
abbrev pub IsDenial : Settings → World → Caller → Request → Option (String Global × Path) → Type 0
IsDenial s w c q (Some root) =
    (list_any (lives s w) (named_in q) ≡ true) × (shown s w c q Live ≡ Some (labelled_bytes root))
IsDenial s w c q None = list_any (lives s w) (named_in q) ≡ false
