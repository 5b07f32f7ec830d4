use Rattle.std.proofs.Common.{◌≡◌, map, drop}
use Rattle.toml.specs.View.{items_view}
use Rattle.policy.specs.Toml.{each_entry}
use Rattle.policy.specs.View.{entry_view}
use Rattle.policy.proofs.Entries.{prepend}
use Rattle.policy.proofs.entry.read_entries.Given as goal

abbrev pub invariant-loop-item : goal.invariant-loop-item
invariant-loop-item l =
    prepend (map entry_view l.entries.items) (each_entry (items_view (drop l.item-index l.item-items)))
    ≡ each_entry (items_view l.item-items)
