use Rattle.std.proofs.Common.{◌≡◌, map, ◌++◌}
use Rattle.paths.specs.RootView.{root_view}
use Rattle.tables_outline.proofs.all_roots.root_list.Given as goal

-- what is listed, and what is left
abbrev pub invariant-loop-root : goal.invariant-loop-root
invariant-loop-root l =
    map root_view l.listed.items ++ map root_view l.root-iterator ≡ map root_view l.initial.root-iterator
