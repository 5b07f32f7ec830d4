-- Rows and roots as a caller passes them, as the definitions have them.
use Rattle.std.specs.Prelude.{List, map}
use Rattle.std.specs.Option.{option_copied}
use Rattle.paths.specs.Root as roots
use Rattle.paths.specs.RootView.{kind_view}
use Rattle.live.specs.Numbering as numbers
use Rattle.live.specs.declared.numbered.rows.Row.{Row}
use Rattle.live.specs.declared.numbered.rows.Root.{Root}

abbrev pub row_view : Row → numbers.Row
row_view r =
    (r.path.now, record { references = r.references.now; outputs = r.outputs.now; deriver = option_copied r.deriver })

abbrev pub rows_view : List Row → List numbers.Row
rows_view rows = map row_view rows

abbrev pub root_view : Root → roots.Root
root_view r = record { kind = kind_view r.kind; target = r.target.now; label = r.label.now }

abbrev pub roots_view : List Root → List roots.Root
roots_view given = map root_view given
