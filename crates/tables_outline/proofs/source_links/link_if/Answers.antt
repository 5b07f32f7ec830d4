use Rattle.std.proofs.Common.{Bor, Option, sym, subst}
use Rattle.std.specs.Prelude.{option_map}
use Rattle.live.specs.Graph.{Path, listed}
use Rattle.tables_outline.specs.Links.{AreLinked}
use Rattle.tables_outline.proofs.Held.{link_none}
use Rattle.tables_outline.proofs.source_links.link_if.Goals as goal

pub returns-in-None : goal.returns-in-None
returns-in-None c ready =
    subst (λ (o : Option (Bor Path)). AreLinked c.args.names.now c.args.names.now c.args.lists.now c.args.lists.now
    c.args.source (listed (option_map (λ p. p.now) o))) (sym c.in-None.is)
    (link_none c.args.names.now c.args.lists.now c.args.source ready.inside)
