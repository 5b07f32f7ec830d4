use Rattle.std.proofs.Common.{◌≡◌, ℕ, length}
use Rattle.tables_outline.specs.LinkLists.{flag_at}
use Rattle.tables_outline.proofs.link_flags.make_room.Given as goal

abbrev pub invariant-loop-count : goal.invariant-loop-count
invariant-loop-count l =
    record {
      count : length l.flags.items ≡ l._count;
      same : (i : ℕ) → flag_at l.flags.items i ≡ flag_at l.fn.flags.items i;
    }
