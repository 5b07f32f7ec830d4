use Rattle.std.proofs.Common.{refl}
use Rattle.wire_requests.specs.Table.{routes}
use Rattle.wire_requests.proofs.kind.rows.Goals as goal

pub returns : goal.returns
unfolding routes
returns c = refl
