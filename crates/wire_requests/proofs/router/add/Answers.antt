use Rattle.matchit.specs.Route.{parse_route}
use Rattle.wire_requests.proofs.Inserted.{one_row}
use Rattle.wire_requests.proofs.Conflicts.{only_memory}
use Rattle.wire_requests.proofs.router.add.Goals as goal

pub no_conflict-requires : goal.no_conflict-requires
no_conflict-requires c =
    let r = c.requires in
    only_memory (parse_route c.args.route.now) c.args.requests c.args.router.now c.insert.new.self r.0 c.in-Err.fault
    r.1 r.2 c.in-Err.ensures

pub returns-in-Ok : goal.returns-in-Ok
returns-in-Ok c =
    λ table rows. one_row (parse_route c.args.route.now) c.args.requests c.args.router.now c.insert.new.self table
    c.in-Ok.field-0 c.in-Ok.ensures rows
