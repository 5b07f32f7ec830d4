use Rattle.std.proofs.Common.{subst}
use Rattle.std.specs.Prelude.{IfSome}
use Rattle.tables_outline.specs.Links.{AreLinksOf}
use Rattle.tables_outline.specs.Outline.{OutlineValue}
use Rattle.tables_outline.specs.Turned.{links_of}
use Rattle.tables_outline.proofs.outline.Outline.links.Goals as goal

pub returns : goal.returns
returns c =
    subst (λ (o : OutlineValue). IfSome c.links.result (λ l. AreLinksOf (links_of o.objects) l.now)) c.self.view_is
    c.links.ensures
