-- Tests of requests on a profile, by an outline.
use Rattle.std.specs.Prelude.{◌≡◌, Result, OnOk, IsTrue}
use Rattle.std.specs.FinMap as finite
use Rattle.policy.specs.Settings.{Settings}
use Rattle.model.specs.declared.refusal.Refusal.{Refusal}
use Rattle.model.specs.World.{Pair, World}
use Rattle.model.specs.Request.{Request}
use Rattle.model.specs.Tests.{refusal}
use Rattle.tables_outline.specs.Outline.{OutlineValue, outline_of}
use Rattle.store_types.specs.Tested.{Tested}

-- a request on a profile was tested by an outline
pub record IsTestedOn {A : Type 0} (o : OutlineValue) (profile : Pair) (q : Request) (result : Result A Refusal)
    : Type 0 where
  -- in each world of the outline the request passes its tests, or its refusal is reported
  pub reported : (s : Settings) (w : World) → outline_of w ≡ o → Tested result (refusal s w q)
  -- what passes is of a profile that exists
  pub present : OnOk result (IsTrue (finite.contains_key o.profiles profile))
