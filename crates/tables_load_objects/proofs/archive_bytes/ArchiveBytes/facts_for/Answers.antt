use Rattle.std.proofs.Common.{ℕ, List, subst}
use Rattle.paths.specs.Facts.{HasFactsFor}
use Rattle.tables_load_objects.proofs.archive_bytes.ArchiveBytes.facts_for.Goals as goal

pub returns : goal.returns
returns c =
    subst (λ (nar : List ℕ). HasFactsFor c.args.method nar c.facts_for.result) c.self.view_is
    (c.facts_for.ensures.needed c.self.invariant)
