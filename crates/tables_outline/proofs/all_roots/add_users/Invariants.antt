use Rattle.std.proofs.Common.{map}
use Rattle.paths.specs.Root.{root_cmp}
use Rattle.model.specs.World.{user_root}
use Rattle.tables_outline.specs.Maps.{pair_bytes}
use Rattle.tables_outline.specs.RootSet.{root_set}
use Rattle.tables_outline.proofs.Sets.{Fills}
use Rattle.tables_outline.proofs.all_roots.add_users.Given as goal

-- the roots of what is left
abbrev pub invariant-loop-owned : goal.invariant-loop-owned
invariant-loop-owned l =
    Fills root_cmp (root_set l.initial.roots.keys) (map (λ e. user_root (pair_bytes e.0, e.1)) l.initial.owned-iterator)
    (root_set l.roots.keys) (map (λ e. user_root (pair_bytes e.0, e.1)) l.owned-iterator)
