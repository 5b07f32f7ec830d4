use Rattle.std.proofs.Common.{Bor, Option, sym, subst}
use Rattle.std.specs.Prelude.{option_map}
use Rattle.live.specs.Graph.{Path, listed}
use Rattle.tables_outline.specs.Links.{AreUnlinked}
use Rattle.tables_outline.proofs.Held.{unlink_none}
use Rattle.tables_outline.proofs.source_links.unlink_if.Goals as goal

pub returns-in-None : goal.returns-in-None
returns-in-None c =
    subst (λ (o : Option (Bor Path)). AreUnlinked c.args.names.now c.args.lists.now c.args.lists.now c.args.source
    (listed (option_map (λ p. p.now) o))) (sym c.in-None.is)
    (unlink_none c.args.names.now c.args.lists.now c.args.source)
