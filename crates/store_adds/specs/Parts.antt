-- Parts of an object to add, and tests of them by an outline.
use Rattle.std.specs.Prelude.{◌||◌, Bool, List}
use Rattle.std.specs.List.{list_all}
use Rattle.std.specs.FinMap as finite
use Rattle.live.specs.Graph.{same}
use Rattle.model.specs.World.{Path}
use Rattle.tables_outline.specs.Outline.{OutlineValue, with_archive}
use Rattle.model.specs.Adds as adds
use Rattle.store_adds.specs.declared.summaries.Added.{Added}

-- an object with its path
abbrev pub added_view : Added → adds.Added
added_view a = record { path = a.path; object = with_archive a.nar a.object }

-- each reference, except the path itself, is a path of the outline; not required if the outline has the path already
abbrev pub is_complete_in : OutlineValue → Path → List Path → Bool
is_complete_in o p refs =
    finite.contains_key o.objects p || list_all (λ r. finite.contains_key o.objects r || same r p) refs
