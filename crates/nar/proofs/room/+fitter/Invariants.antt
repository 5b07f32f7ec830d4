use Rattle.std.proofs.Common.{◌≡◌, drop, None}
use Rattle.std.specs.Option.{option_copied}
use Rattle.nar.specs.Room.{entries_room}
use Rattle.nar.specs.View.{trees_of}
use Rattle.nar.proofs.room.+fitter.Given as goal

abbrev pub invariant-room_after_entries-loop-entry : goal.invariant-room_after_entries-loop-entry
invariant-room_after_entries-loop-entry l =
    entries_room l.depth None l.fn.room (trees_of l.entries)
    ≡ entries_room l.depth (option_copied l.last) l.left (trees_of (drop l.entry-index l.entries))
