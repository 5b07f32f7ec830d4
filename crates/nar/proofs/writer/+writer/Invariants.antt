use Rattle.std.proofs.Common.{ℕ, take}
use Rattle.nar.specs.Archive.{entries_parts}
use Rattle.nar.specs.Writer.{Writes}
use Rattle.nar.specs.View.{trees_of}
use Rattle.nar.proofs.writer.+writer.Given as goal

abbrev pub invariant-put_entries-loop-entry : goal.invariant-put_entries-loop-entry
invariant-put_entries-loop-entry l =
    (depth : ℕ) → Writes l.fn.out.items l.out.items (entries_parts depth (trees_of (take l.entry-index l.entries)))
