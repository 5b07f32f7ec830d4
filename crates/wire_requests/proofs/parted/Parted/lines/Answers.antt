use Rattle.std.proofs.Common.{◌≡◌, sym, subst}
use Rattle.intake.specs.Arrival.{bytes_in}
use Rattle.wire_bodies.specs.Prefix.{rest_of}
use Rattle.wire_requests.specs.Kept.{bytes_of}
use Rattle.wire_requests.proofs.Parting.{archive_is}
use Rattle.wire_requests.proofs.parted.Parted.lines.Goals as goal

pub returns-clause-rest : goal.returns-clause-rest
returns-clause-rest c =
    subst (λ v. rest_of (bytes_of v) ≡ bytes_in v.1) c.self.view_is
    (sym (archive_is c.self.inside.prefix (bytes_in c.self.inside.archive) c.self.invariant))
