use Rattle.std.proofs.Common.{sym}
use Rattle.tables_outline.proofs.Held.{clear_one, clear_unnamed}
use Rattle.tables_outline.proofs.source_links.clear.Goals as goal

pub returns-in-Some : goal.returns-in-Some
returns-in-Some c =
    clear_one c.args.names.now c.args.held.now c.clear.new.self c.args.path.now c.in-Some.number (sym c.in-Some.ensures)
    c.clear.ensures

pub returns-in-None : goal.returns-in-None
returns-in-None c = clear_unnamed c.args.names.now c.args.held.now c.args.path.now (sym c.in-None.ensures)
