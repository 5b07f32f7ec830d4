use Rattle.std.specs.Prelude.{length}
use Rattle.std.specs.FinMap as finite
use Rattle.model.specs.World.{Pair, pair_cmp}
use Rattle.tables_outline.specs.Maps.{labelled_bytes, seen_set}
use Rattle.intake.proofs.FirstEntries.{Precede}
use Rattle.store_roots.proofs.RuntimePairs.{entries_of}
use Rattle.store_roots.proofs.runtime.valid_pairs.Given as goal

-- what is left
abbrev pub invariant-loop-pair : goal.invariant-loop-pair
invariant-loop-pair l =
    Precede pair_cmp (entries_of labelled_bytes (λ (p : Pair). finite.contains_key l.outline.objects p.1) l.left.items)
    (seen_set pair_cmp labelled_bytes l.valid.keys)
    (entries_of labelled_bytes (λ (p : Pair). finite.contains_key l.outline.objects p.1) l.fn.pairs.items)

abbrev pub decreases-loop-pair : goal.decreases-loop-pair
decreases-loop-pair l = length l.left.items
