use Rattle.nar.proofs.Counting.{has_read_nothing}
use Rattle.nar.proofs.progress.Progress.new.Goals as goal

pub returns : goal.returns
returns c = rw c.new-2.ensures.items (has_read_nothing c.new.result c.new.ensures)
