use Rattle.std.proofs.Common.{Option, Box, Global, sym, ap, ◌∙◌}
use Rattle.tables_outline.specs.Details.{details_of}
use Rattle.tables_outline.specs.Outline.{Outlined}
use Rattle.tables_outline.specs.declared.details.Details.{Details}
use Rattle.tables_outline.proofs.summary.Summary.deriver.Goals as goal

pub returns-in-Some : goal.returns-in-Some
returns-in-Some c =
    c.as_ref.ensures.value ∙ ap (λ (d : Details). d.deriver) c.deref.ensures
    ∙ ap (λ (d : Option (Box Details Global)). (details_of d).deriver) (sym c.in-Some.is)
    ∙ ap (λ (o : Outlined). o.deriver) c.self.view_is

pub returns-in-None : goal.returns-in-None
returns-in-None c =
    ap (λ (d : Option (Box Details Global)). (details_of d).deriver) (sym c.in-None.is)
    ∙ ap (λ (o : Outlined). o.deriver) c.self.view_is
