use Rattle.std.specs.Prelude.{◌≡◌, drop}
use Rattle.drv.specs.View.{pairs}
use Rattle.tables_load_objects.specs.Tested.{same_outputs, named_of}
use Rattle.tables_load_objects.proofs.outputs.are_recorded.Given as goal

-- what is left decides
abbrev pub invariant-rows : goal.invariant-rows
invariant-rows l = record {
  can : (goal.iterator-rows).can_next l.left;
  ends : (goal.iterator-rows).is_finite l.left;
  decides : same_outputs (named_of (drop l.row-index l.rows)) (pairs l.left)
      ≡ same_outputs (named_of l.rows) (pairs l.found.entries);
}
