-- The law of soundness: a sound world stays sound.
use Rattle.std.specs.Prelude.{◌≡◌, List, [], ◌∷◌, Some, IsTrue}
use Rattle.nar.specs.Tree.{IsBytes}
use Rattle.paths.specs.Names.{is_store_name}
use Rattle.paths.specs.StorePath.{is_base_name}
use Rattle.policy.specs.Settings.{Settings}
use Rattle.policy.specs.Caller.{Caller}
use Rattle.model.specs.World.{Path, World}
use Rattle.model.specs.Sound.{IsSound}
use Rattle.model.specs.Request.{Imported, Request, add_text, add_source, import_object}
use Rattle.model.specs.Reply.{Reply}
use Rattle.model.specs.Step.{Step, Run}

-- an import whose paths are base names, and whose archive is bytes
pub record IsWellFormedImport (i : Imported) : Type 0 where
  pub path : IsTrue (is_base_name i.path)
  pub deriver : (d : Path) → i.deriver ≡ Some d → IsTrue (is_base_name d)
  pub nar : IsBytes i.nar

-- The names, paths and bytes of a request are of their kinds, as the types of the code keep them. All else is tested.
abbrev pub IsWellFormed : Request → Type 0
IsWellFormed (add_text name refs contents) = IsTrue (is_store_name name) × IsBytes contents
IsWellFormed (add_source name refs b) = IsTrue (is_store_name name) × IsBytes b
IsWellFormed (import_object i) = IsWellFormedImport i
IsWellFormed _ = Unit {0}

-- a step keeps a sound world sound
abbrev pub KeepsSound : Type 0
KeepsSound = (s : Settings) (w : World) (c : Caller) (q : Request) (reply : Reply) (new : World)
    → Step s w c q reply new → IsWellFormed q → IsSound s.store_dir w → IsSound s.store_dir new

abbrev pub AreWellFormed : List (Caller × Request) → Type 0
AreWellFormed [] = Unit {0}
AreWellFormed (call ∷ calls) = IsWellFormed call.1 × AreWellFormed calls

-- and so does a run
abbrev pub RunsKeepSound : Type 0
RunsKeepSound = (s : Settings) (w : World) (calls : List (Caller × Request)) (replies : List Reply) (new : World)
    → Run s w calls replies new → AreWellFormed calls → IsSound s.store_dir w → IsSound s.store_dir new
