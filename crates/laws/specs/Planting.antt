-- The law that nobody plants, over whole runs.
use Rattle.std.specs.Prelude.{◌≡◌, List, Some, IsTrue, Contains}
use Rattle.std.specs.FinMap as finite
use Rattle.paths.specs.ContentAddress.{ContentAddress, verifies}
use Rattle.policy.specs.Settings.{Settings}
use Rattle.policy.specs.Caller.{Caller}
use Rattle.policy.specs.Class.{class_of}
use Rattle.policy.specs.Rules.{is_trusted}
use Rattle.model.specs.World.{Path, Object, World}
use Rattle.model.specs.Sound.{IsSound}
use Rattle.model.specs.Request.{Imported, Request, import_object}
use Rattle.model.specs.Reply.{Reply}
use Rattle.model.specs.Step.{Run}
use Rattle.model.specs.Soundness.{AreWellFormed}
use Rattle.laws.specs.Changes.{with_import, IsAsSubmitted}

-- How an object came to its path over some calls from a world: it was there before; or it has a content address, which
-- verifies for the path, its references and its archive; or a trusted caller imported it there as it is.
pub data Came (s : Settings) (w : World) (calls : List (Caller × Request)) (p : Path) (o : Object) : Type 0 where
  existed : finite.get w.objects p ≡ Some o → Came s w calls p o
  addressed : (a : ContentAddress) → o.ca ≡ Some a → IsTrue (verifies a s.store_dir p (finite.keys o.references) o.nar)
      → Came s w calls p o
  imported : (c : Caller) (i : Imported) → Contains calls (c, import_object i) → IsTrue (is_trusted (class_of s c))
      → i.path ≡ p
      → IsAsSubmitted s.store_dir (with_import i) o → Came s w calls p o

-- each object that is there after a run came so
abbrev pub NobodyPlantsInRuns : Type 0
NobodyPlantsInRuns = (s : Settings) (w : World) (calls : List (Caller × Request)) (replies : List Reply) (new : World)
    → Run s w calls replies new → AreWellFormed calls → IsSound s.store_dir w
    → (p : Path) (o : Object) → finite.get new.objects p ≡ Some o → Came s w calls p o
