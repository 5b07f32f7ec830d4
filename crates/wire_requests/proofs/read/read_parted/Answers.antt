use Rattle.std.proofs.Common.{sym, subst}
use Rattle.wire_requests.specs.Reads.{Makes}
use Rattle.wire_requests.proofs.read.read_parted.Goals as goal

pub returns-in-AddSource : goal.returns-in-AddSource
returns-in-AddSource c =
    λ target all is. subst (λ k. Makes c.args.dir.now k target all c.add_source.result) (sym c.in-AddSource.is)
    (c.add_source.ensures target all is)

pub returns-in-Import : goal.returns-in-Import
returns-in-Import c =
    λ target all is. subst (λ k. Makes c.args.dir.now k target all c.import.result) (sym c.in-Import.is)
    (c.import.ensures target all is)
