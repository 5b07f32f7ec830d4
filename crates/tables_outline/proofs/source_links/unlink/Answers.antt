use Rattle.std.proofs.Common.{sym}
use Rattle.tables_outline.proofs.Held.{unlink_one, unlink_unnamed}
use Rattle.tables_outline.proofs.source_links.unlink.Goals as goal

pub returns-in-Some : goal.returns-in-Some
returns-in-Some c =
    unlink_one c.args.names.now c.args.lists.now c.forget.new.self c.args.target.now c.args.source c.in-Some.number
    (sym c.in-Some.ensures) c.forget.ensures

pub returns-in-None : goal.returns-in-None
returns-in-None c =
    unlink_unnamed c.args.names.now c.args.lists.now c.args.target.now c.args.source (sym c.in-None.ensures)
