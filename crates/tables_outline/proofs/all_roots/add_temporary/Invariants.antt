use Rattle.std.proofs.Common.{map}
use Rattle.paths.specs.Root.{root_cmp}
use Rattle.model.specs.World.{temporary_root}
use Rattle.tables_outline.specs.Maps.{temporary_bytes}
use Rattle.tables_outline.specs.RootSet.{root_set}
use Rattle.tables_outline.proofs.Sets.{Fills}
use Rattle.tables_outline.proofs.all_roots.add_temporary.Given as goal

-- the roots of what is left
abbrev pub invariant-loop-kept : goal.invariant-loop-kept
invariant-loop-kept l =
    Fills root_cmp (root_set l.initial.roots.keys)
    (map (λ e. temporary_root (temporary_bytes e)) l.initial.kept-iterator) (root_set l.roots.keys)
    (map (λ e. temporary_root (temporary_bytes e)) l.kept-iterator)
