-- What denies a deletion.
use Rattle.std.proofs.Common.{◌≡◌, List, String, Some, None, Option, is_some, option_map, sym, ap, ◌∙◌}
use Rattle.std.specs.Prelude.{Bool, find}
use Rattle.std.specs.List.{list_any}
use Rattle.std.specs.declared.alloc.Global.{Global}
use Rattle.policy.specs.Settings.{Settings}
use Rattle.policy.specs.Caller.{Caller}
use Rattle.policy.specs.Class.{class_of}
use Rattle.policy.specs.declared.kinds.Class.{Class}
use Rattle.model.specs.World.{Path, World}
use Rattle.tables_outline.specs.Maps.{labelled_bytes}
use Rattle.model.specs.Request.{delete}
use Rattle.model.specs.Liveness.{lives}
use Rattle.model.specs.Seen.{seen_root}
use Rattle.model.specs.Verdict.{root_of_first}
use Rattle.store_reach.specs.Found.{IsDenial}

-- what is reported of the first path that is live
pub denied_as : (s : Settings) (w : World) (c : Caller) (named : List Path) (ignores : Bool) (class : Class)
    → class ≡ class_of s c → (root : Option (String Global × Path))
    → option_map labelled_bytes root ≡ option_map (seen_root class) (root_of_first s w (find (lives s w) named))
    → is_some root ≡ list_any (lives s w) named → IsDenial s w c (delete named ignores) root
denied_as s w c named ignores class is None shows living = sym living
denied_as s w c named ignores class is (Some root) shows living =
    (sym living, sym (shows ∙ ap (λ k. option_map (seen_root k) (root_of_first s w (find (lives s w) named))) is))
