use Rattle.wire.proofs.Chosen.{chosen}
use Rattle.wire.proofs.admission.on_method.Goals as goal

pub returns-in-Some-clause-parameters : goal.returns-in-Some-clause-parameters
returns-in-Some-clause-parameters c =
    λ target are. chosen c.args.method.now target c.args.found.parameters c.in-Some.kind c.args.found.requests
    c.in-Some.ensures are
