use Rattle.std.proofs.Common.{◌+◌, ◌-◌, ◌*◌, ◌≡◌, length, None}
use Rattle.std.specs.Option.{option_copied}
use Rattle.nar.specs.Tree.{AreLegal}
use Rattle.nar.specs.Archive.{entries_parts}
use Rattle.nar.specs.Reader.{Reads}
use Rattle.nar.specs.View.{trees_of}
use Rattle.nar.proofs.Directory.{last_name}
use Rattle.nar.proofs.reader.+reader.Given as goal

abbrev pub decreases-directory_of : goal.decreases-directory_of
decreases-directory_of l = 3 * (256 - l.depth) + 1

abbrev pub decreases-entry_of : goal.decreases-entry_of
decreases-entry_of l = 3 * (256 - l.depth)

abbrev pub decreases-node_of : goal.decreases-node_of
decreases-node_of l = 3 * (256 - l.depth) + 2

abbrev pub invariant-directory_of-loop-list : goal.invariant-directory_of-loop-list
invariant-directory_of-loop-list l = record {
  named : AreLegal None (trees_of l.list.items);
  parts : Reads l.fn.at.room l.fn.at.rest.now (entries_parts l.depth (trees_of l.list.items)) l.place.room
      l.place.rest.now;
  last : option_copied l.last ≡ last_name None (trees_of l.list.items);
}

abbrev pub decreases-directory_of-loop-list : goal.decreases-directory_of-loop-list
decreases-directory_of-loop-list l = length l.place.rest.now
