use Rattle.wire_requests.proofs.Bare.{bare_reads, of_kind}
use Rattle.wire_requests.proofs.read.read_bare.Goals as goal

pub returns-in-Info : goal.returns-in-Info
returns-in-Info c =
    λ dir body says target are. of_kind dir target body c.args.parameters c.info.result c.in-Info.is are
    (c.info.ensures dir body says target)

pub returns-in-Nar : goal.returns-in-Nar
returns-in-Nar c =
    λ dir body says target are. of_kind dir target body c.args.parameters c.archive.result c.in-Nar.is are
    (c.archive.ensures dir body says target)

pub returns-in-Ls : goal.returns-in-Ls
returns-in-Ls c =
    λ dir body says target are. of_kind dir target body c.args.parameters c.listing.result c.in-Ls.is are
    (c.listing.ensures dir body says target)

pub returns-in-RootsOf : goal.returns-in-RootsOf
returns-in-RootsOf c =
    λ dir body says target are. of_kind dir target body c.args.parameters c.roots_of.result c.in-RootsOf.is are
    (c.roots_of.ensures dir body says target)

pub returns-in_default : goal.returns-in_default
returns-in_default c = λ dir body says target are.
    bare_reads dir c.args.kind target body c.args.is_blank c.bare.result says (c.bare.ensures target are)
