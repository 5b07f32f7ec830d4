-- The outputs that a derivation records, in memory.
use Rattle.std.specs.Prelude.{ℕ, List, String}
use Rattle.std.specs.FinMap as finite
use Rattle.std.specs.declared.alloc.Global.{Global}
use Rattle.paths.specs.Root.{bytes_cmp}
use Rattle.drv.specs.View.{pairs}

-- paths by names, as contracts see them: the base name of each path at the bytes of its name
abbrev pub outputs_view : List (String Global × List ℕ) → finite.FinMap bytes_cmp (List ℕ)
outputs_view entries = finite.from_entries (pairs entries)
