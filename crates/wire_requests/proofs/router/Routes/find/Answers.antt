use Rattle.std.proofs.Common.{sym, subst}
use Rattle.matchit.specs.Params.{walk, AllText}
use Rattle.wire_requests.specs.Parameters.{AreNamed}
use Rattle.wire_requests.proofs.Fits.{found_row, found_requests, missing_requests}
use Rattle.wire_requests.proofs.Copied.{row_text, row_named}
use Rattle.wire_requests.proofs.router.Routes.find.Goals as goal

pub returns-in_ok-parameters-in-Ok-clause-requests : goal.returns-in_ok-parameters-in-Ok-clause-requests
returns-in_ok-parameters-in-Ok-clause-requests c =
    sym (found_requests c.self.inside.router c.self.invariant c.args.target.now (λ i. (c.type_inv.target i).fits) _
    c.in-Ok.ensures.found)

pub returns-in_ok-parameters-in-Ok-clause-parameters : goal.returns-in_ok-parameters-in-Ok-clause-parameters
returns-in_ok-parameters-in-Ok-clause-parameters c =
    let params = c.in-Ok.found.params in
    let parameters = c.in_ok-parameters-in-Ok.parameters in
    let row =
    found_row c.self.inside.router c.self.invariant c.args.target.now (λ i. (c.type_inv.target i).fits) _
    c.in-Ok.ensures.found in
    let texts =
    subst (λ path. AllText (walk params.pattern.now params.text.now path params.names.now 0 0))
    (sym c.in-Ok.ensures.path)
    (row_text _ c.args.target.now row.0 row.1 row.2 c.utf8.target) in
    row_named _ c.args.target.now row.0 row.1 row.2 parameters
    (subst (λ path. AreNamed (walk params.pattern.now params.text.now path params.names.now 0 0) parameters)
    c.in-Ok.ensures.path (c.in_ok-parameters-in-Ok.ensures texts))

pub returns-in-Err-clause-requests : goal.returns-in-Err-clause-requests
returns-in-Err-clause-requests c =
    sym (missing_requests c.self.inside.router c.self.invariant c.args.target.now c.in-Err.ensures.missing)
