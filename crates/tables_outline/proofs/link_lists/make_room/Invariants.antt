use Rattle.std.proofs.Common.{◌≡◌, ℕ, length, map}
use Rattle.tables_outline.specs.LinkLists.{list_at}
use Rattle.tables_outline.proofs.link_lists.make_room.Given as goal

abbrev pub invariant-loop-count : goal.invariant-loop-count
invariant-loop-count l =
    record {
      count : length l.lists.items ≡ l._count;
      same : (i : ℕ) → list_at (map (λ v. v.items) l.lists.items) i ≡ list_at (map (λ v. v.items) l.fn.lists.items) i;
    }
