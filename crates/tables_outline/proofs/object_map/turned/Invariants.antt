use Rattle.tables_outline.proofs.TurnedAll.{AreTurnedSo}
use Rattle.tables_outline.proofs.object_map.turned.Given as goal

-- the links of the objects before those that are left
abbrev pub invariant-loop-path : goal.invariant-loop-path
invariant-loop-path l = AreTurnedSo l.initial.path-iterator l.path-iterator l.links
