use Rattle.std.proofs.Common.{◌≡◌, ◌+◌, ◌≤◌, length, map}
use Rattle.std.specs.Vec.{vec_len, vec_capacity}
use Rattle.sqlite.specs.State.{HasCleanDisk}
use Rattle.sqlite.specs.Held.{state}
use Rattle.model.specs.World.{World}
use Rattle.tables_writes.specs.TablesValue.{HasWorld}
use Rattle.store_promises.specs.Durability.{LeavesOthers}
use Rattle.store_types.specs.View.{call_view, reply_view}
use Rattle.store.proofs.Runs.{HasRun}
use Rattle.store.proofs.Spent.{SpentSoFar}
use Rattle.store.proofs.store.Store.run.Given as goal

-- what is made, and what is left
abbrev pub invariant-loop-asked : goal.invariant-loop-asked
invariant-loop-asked g l = record {
  settings : l.self.settings ≡ l.fn.self.settings;
  room : vec_len l.replies + length l.asked-iterator.rest.items ≤ vec_capacity l.replies;
  so_far : (w : World) → HasWorld g.S.Store l.fn.self.tables w → (mid : World)
      × HasRun (HasCleanDisk (state g.S.Store l.self.tables.connection)) l.fn.self.settings
      (map call_view l.fn.calls.items) (map call_view l.asked-iterator.rest.items) (map reply_view l.replies.items)
      w mid
      × HasWorld g.S.Store l.self.tables mid;
  others : (w : World) → HasWorld g.S.Store l.fn.self.tables w → LeavesOthers g.S.Store l.fn.self.tables l.self.tables;
  spent : SpentSoFar l.fn.self.settings l.fn.calls.items l.asked-iterator.rest.items (map reply_view l.replies.items);
}
