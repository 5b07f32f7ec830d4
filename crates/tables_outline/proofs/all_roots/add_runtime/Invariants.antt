use Rattle.std.proofs.Common.{map}
use Rattle.paths.specs.Root.{root_cmp}
use Rattle.model.specs.World.{runtime_root}
use Rattle.tables_outline.specs.Maps.{labelled_bytes}
use Rattle.tables_outline.specs.RootSet.{root_set}
use Rattle.tables_outline.proofs.Sets.{Fills}
use Rattle.tables_outline.proofs.all_roots.add_runtime.Given as goal

-- the roots of what is left
abbrev pub invariant-loop-pair : goal.invariant-loop-pair
invariant-loop-pair l =
    Fills root_cmp (root_set l.initial.roots.keys) (map (λ e. runtime_root (labelled_bytes e)) l.initial.pair-iterator)
    (root_set l.roots.keys) (map (λ e. runtime_root (labelled_bytes e)) l.pair-iterator)
