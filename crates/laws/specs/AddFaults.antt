-- Laws of what an add is refused with.
use Rattle.std.specs.Prelude.{◌≡◌, ℕ, ◌≤◌, List, length, Ok, IsFalse, Contains}
use Rattle.sha2.specs.Sha256.{sha256}
use Rattle.nar.specs.Tree.{Tree}
use Rattle.nar.specs.Outcome.{outcome_of}
use Rattle.model.specs.World.{World, has}
use Rattle.model.specs.Objects.{most_references}
use Rattle.policy.specs.Settings.{Settings}
use Rattle.policy.specs.Caller.{Caller}
use Rattle.model.specs.Request.{Imported, import_object}
use Rattle.model.specs.Reply.{Reply, refused}
use Rattle.model.specs.declared.refusal.Refusal.TheVariants.{MissingReference, NarHashMismatch}
use Rattle.model.specs.Adds.{text_archive, text_archive_size}
use Rattle.model.specs.Step.{Step}
use Rattle.laws.specs.Faults.{IsRefusedWith}

-- the size by which a text is refused is that of its archive
abbrev pub TextsAreMeasured : Type 0
TextsAreMeasured = (contents : List ℕ) → text_archive_size contents ≡ length (text_archive contents)

-- where an archive is read and references are few enough, another digest than the given one is reported before any
-- fault of addresses, references and derivations
abbrev pub DigestsComeFirst : Type 0
DigestsComeFirst =
    (s : Settings) (w : World) (c : Caller) (i : Imported) (t : Tree) (reply : Reply) (new : World)
    → Step s w c (import_object i) reply new
    → length i.refs ≤ most_references → outcome_of i.nar ≡ Ok t → (sha256 i.nar ≡ i.nar_hash → ⊥)
    → IsRefusedWith NarHashMismatch reply

-- a reference that is reported missing isn't valid, and isn't the object's own path
abbrev pub MissingAreMissing : Type 0
MissingAreMissing =
    (s : Settings) (w : World) (c : Caller) (i : Imported) (new : World)
    → Step s w c (import_object i) (refused MissingReference) new
    → (r : List ℕ) × Contains i.refs r × (r ≡ i.path → ⊥) × IsFalse (has w r)
