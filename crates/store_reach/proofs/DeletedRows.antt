-- What a deletion finds.
use Rattle.std.proofs.Common.{◌≡◌, List, [], ◌∷◌, Some, None, Option, refl, sym, ap, subst, ◌∙◌}
use Rattle.std.specs.Prelude.{Bool}
use Rattle.std.specs.List.{list_all}
use Rattle.policy.specs.Settings.{Settings}
use Rattle.policy.specs.Caller.{Caller}
use Rattle.model.specs.World.{Path, World, has}
use Rattle.model.specs.Reply.{freed}
use Rattle.model.specs.declared.refusal.Refusal.{Refusal}
use Rattle.model.specs.declared.refusal.Refusal.TheVariants.{NotValid}
use Rattle.model.specs.Request.{delete}
use Rattle.model.specs.Liveness.{deleted_paths, bytes_in}
use Rattle.model.specs.Tests.{first_failing, unless}
use Rattle.store_reach.specs.declared.removal.Found.{Found}
use Rattle.store_types.specs.declared.replies.Stop.{Stop}
use Rattle.store_reach.specs.Found.{found_view}
use Rattle.store_reach.specs.Removal.{Removes}
use Rattle.store_types.specs.Tested.{Stops}
use Rattle.store_reach.proofs.Collected.{others_left}

-- the only test
single : (t : Option Refusal) → first_failing (t ∷ []) ≡ t
single None = refl
single (Some r) = refl

module _ (named passed : List Path) (same : passed ≡ named) (w : World) where
  -- what stops it
  pub stopped_as : (s : Settings) (ignores : Bool) (stop : Stop)
      → Stops stop (unless (list_all (has w) passed) NotValid)
      → Stops stop (first_failing (unless (list_all (has w) named) NotValid ∷ []))
  stopped_as s ignores stop h =
      subst (Stops stop) (ap (λ (ps : List Path). unless (list_all (has w) ps) NotValid) same
      ∙ sym (single (unless (list_all (has w) named) NotValid))) h

  module _ (f : Found) (found : (unless (list_all (has w) passed) NotValid ≡ None)
      × (found_view f ≡ (deleted_paths w passed, bytes_in w (deleted_paths w passed)))) where
    pub found_paths : f.paths.items ≡ deleted_paths w named
    found_paths = ap (λ (x : List Path × _). x.0) found.1 ∙ ap (deleted_paths w) same

    -- the paths that it finds go, and nothing else
    pub deleted_as : (s : Settings) (c : Caller) (ignores : Bool)
        → Removes s w c (delete named ignores) f.paths.items f.bytes
    deleted_as s c ignores = record {
      passes =
          single (unless (list_all (has w) named) NotValid)
          ∙ ap (λ (ps : List Path). unless (list_all (has w) ps) NotValid) (sym same) ∙ found.0;
      answers =
          ap (λ (x : List Path × _). freed x.0 x.1) found.1
          ∙ ap (λ (ps : List Path). freed (deleted_paths w ps) (bytes_in w (deleted_paths w ps))) same;
      becomes = others_left w named f.paths.items found_paths;
    }
