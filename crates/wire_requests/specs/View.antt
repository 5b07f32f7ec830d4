-- What the heads of bodies stand for.
use Rattle.std.specs.Prelude.{ℕ, Bool, false, List, Option, unwrap_or}
use Rattle.model.specs.Request as asked
use Rattle.wire_bodies.specs.declared.import.ImportHead.{ImportHead}

-- an import, with the archive after the empty line
abbrev pub imported : ImportHead → List ℕ → asked.Imported
imported head nar =
    record {
      path = head.path;
      nar_hash = head.nar_hash;
      refs = head.references.items;
      deriver = head.deriver;
      ca = head.ca;
      nar = nar;
    }

-- a flag that isn't set where it isn't given
abbrev pub flag : Option Bool → Bool
flag given = unwrap_or given false
