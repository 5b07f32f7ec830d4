use Rattle.std.proofs.Common.{map, string_bytes}
use Rattle.paths.specs.Root.{root_cmp}
use Rattle.model.specs.World.{permanent_root}
use Rattle.tables_outline.specs.RootSet.{root_set}
use Rattle.tables_outline.proofs.Sets.{Fills}
use Rattle.tables_outline.proofs.all_roots.add_permanent.Given as goal

-- the roots of what is left
abbrev pub invariant-loop-name : goal.invariant-loop-name
invariant-loop-name l =
    Fills root_cmp (root_set l.initial.roots.keys)
    (map (λ e. permanent_root (string_bytes e.0, e.1)) l.initial.name-iterator) (root_set l.roots.keys)
    (map (λ e. permanent_root (string_bytes e.0, e.1)) l.name-iterator)
