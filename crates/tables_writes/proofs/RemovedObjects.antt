-- Objects that are removed from tables.
use Rattle.std.proofs.Common.{◌≡◌, List}
use Rattle.sqlite_trees.specs.declared.store.Store.{Ghosts}
use Rattle.model.specs.World.{Path}
use Rattle.tables_writes.specs.Writes.{StaysSound}
use Rattle.tables_writes.specs.Rewritten.{without_objects}
use Rattle.tables_writes.specs.TablesValue.{TablesValue, Agrees}
use Rattle.tables_writes.proofs.AfterWrites.{IsWrite}
use Rattle.tables_writes.proofs.Removed.{world_without, outline_without, outline_follows, objects_follow}

pub removed_write : {S : Type 0} (g : Ghosts S) (k now : TablesValue S) (ps : List Path) → k ≡ now → Agrees g k
    → StaysSound g now (world_without ps) → IsWrite g k now (without_objects ps) (world_without ps) (outline_without ps)
removed_write g k now ps view agrees sound = record {
  view = view;
  law = outline_follows ps;
  follows = λ clean is_open. objects_follow k.dir ps _ (agrees.rows clean is_open).sound;
  agrees = agrees;
  sound = sound;
}
