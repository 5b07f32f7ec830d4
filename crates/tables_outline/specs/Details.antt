-- The parts of an object that few objects have.
use Rattle.std.specs.Prelude.{List, [], ℕ, map, Option, Some, None, Box, string_bytes}
use Rattle.std.specs.declared.alloc.Global.{Global}
use Rattle.paths.specs.ContentAddress.{ContentAddress}
use Rattle.model.specs.World.{Path}
use Rattle.tables_outline.specs.declared.details.Details.{Details}

-- the deriver, the content address, and the outputs of an object: names, and the path of each at the same place
pub record DetailsValue : Type 0 where
  pub deriver : Option Path
  pub ca : Option ContentAddress
  pub names : List (List ℕ)
  pub outputs : List Path

-- the details of an object that has none
abbrev pub no_details : DetailsValue
no_details = record { deriver = None; ca = None; names = []; outputs = [] }

-- details in memory
abbrev pub details_view : Details → DetailsValue
details_view d =
    record {
      deriver = d.deriver;
      ca = d.ca;
      names = map string_bytes d.outputs.names.items;
      outputs = d.outputs.paths.items;
    }

-- details in a box, where an object that has none has no box
abbrev pub details_of : Option (Box Details Global) → DetailsValue
details_of None = no_details
details_of (Some b) = details_view b.value
