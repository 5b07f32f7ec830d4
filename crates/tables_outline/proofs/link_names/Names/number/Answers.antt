use Rattle.std.proofs.Common.{sym}
use Rattle.tables_outline.proofs.Named.{found_put}
use Rattle.tables_outline.proofs.link_names.Names.number.Goals as goal

pub returns-in-None-clause-number : goal.returns-in-None-clause-number
returns-in-None-clause-number c =
    found_put c.put.result c.args.self.now c.put.new.self c.args.path.now (sym c.in-None.ensures) c.put.ensures.names
    c.put.ensures.number
