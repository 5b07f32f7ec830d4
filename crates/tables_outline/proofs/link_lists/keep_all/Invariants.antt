use Rattle.std.proofs.Common.{map}
use Rattle.tables_outline.proofs.Listed.{AreKeptSo}
use Rattle.tables_outline.proofs.link_lists.keep_all.Given as goal

abbrev pub invariant-loop-number : goal.invariant-loop-number
invariant-loop-number l =
    AreKeptSo l.flags l.number (map (λ v. v.items) l.fn.lists.items) (map (λ v. v.items) l.lists.items)
