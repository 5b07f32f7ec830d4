use Rattle.std.proofs.Common.{Option, Box, Global, sym, ap, ◌∙◌}
use Rattle.tables_outline.specs.Details.{details_of}
use Rattle.tables_outline.specs.Outline.{Outlined}
use Rattle.tables_outline.specs.declared.details.Details.{Details}
use Rattle.tables_outline.proofs.summary.Summary.ca.Goals as goal

pub returns-in-Some : goal.returns-in-Some
returns-in-Some c =
    ap (λ (d : Details). d.ca) c.deref.ensures
    ∙ ap (λ (d : Option (Box Details Global)). (details_of d).ca) (sym c.in-Some.is)
    ∙ ap (λ (o : Outlined). o.ca) c.self.view_is

pub returns-in-None : goal.returns-in-None
returns-in-None c =
    ap (λ (d : Option (Box Details Global)). (details_of d).ca) (sym c.in-None.is)
    ∙ ap (λ (o : Outlined). o.ca) c.self.view_is
