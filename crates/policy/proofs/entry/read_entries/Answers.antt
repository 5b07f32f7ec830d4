use Rattle.std.proofs.Common.{◌≡◌, ◌+◌, ◌++◌, [], ◌∷◌, map, drop, get_or, Some, sym, ap, ◌∙◌, arith, rules}
use Rattle.toml.specs.View.{view, items_view}
use Rattle.policy.specs.View.{entry_view}
use Rattle.policy.specs.Toml.{each_entry, before, entry_of}
use Rattle.policy.proofs.Entries.{prepend, each_entry-drop, prepend-before, map-push}
use Rattle.policy.proofs.entry.read_entries.Goals as goal

pub loop-item-preserved : goal.loop-item-preserved
loop-item-preserved c =
    let vs = c.deref-item-items.result.now in
    let i = c.loop-item.item-index in
    let done = c.loop-item.entries.items in
    let entry = c.in-Some-2.entry in
    let read : entry_of (view (get_or vs i c.item-item.result)) ≡ Some (entry_view entry) =
    rw (← c.item-item.is) (sym (rw c.in-Some-2.is at c.in_ok-entry.ensures)) in
    let step : each_entry (items_view (drop i vs))
    ≡ before (Some (entry_view entry)) (each_entry (items_view (drop (i + 1) vs))) =
    each_entry-drop vs i c.item-item.result (omega arith)
    ∙ ap (λ o. before o (each_entry (items_view (drop (i + 1) vs)))) read in
    let pushed : c.push.new.self.items ≡ done ++ entry ∷ [] = search rules in
    rw (pushed, map-push) (sym (prepend-before (map entry_view done) (entry_view entry) _)
    ∙ ap (prepend (map entry_view done)) (sym step) ∙ c.loop-item.invariant)
