-- Roots in memory as a set.
use Rattle.std.specs.Prelude.{List}
use Rattle.paths.specs.Root.{Set, root_cmp}
use Rattle.paths.specs.RootView.{root_view}
use Rattle.paths.specs.declared.root.Root.{Root}
use Rattle.tables_outline.specs.Maps.{seen_set}

-- some roots as a set
abbrev pub root_set : List Root → Set root_cmp
root_set keys = seen_set root_cmp root_view keys
