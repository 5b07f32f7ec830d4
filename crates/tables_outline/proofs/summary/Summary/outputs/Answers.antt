use Rattle.std.proofs.Common.{Option, Box, Global, sym, ap, ◌∙◌}
use Rattle.std.specs.FinMap as finite
use Rattle.tables_outline.specs.Details.{details_of}
use Rattle.tables_outline.specs.Outline.{Outlined}
use Rattle.tables_outline.specs.declared.details.Details.{Details}
use Rattle.tables_outline.proofs.Described.{paths_are}
use Rattle.tables_outline.proofs.summary.Summary.outputs.Goals as goal

pub returns-in-Some : goal.returns-in-Some
returns-in-Some c =
    c.as_slice.ensures.value ∙ ap (λ (d : Details). d.outputs.paths.items) c.deref.ensures
    ∙ ap (λ (d : Option (Box Details Global)). (details_of d).outputs) (sym c.in-Some.is)
    ∙ paths_are c.self.inside c.self.invariant
    ∙ ap (λ (o : Outlined). finite.values o.outputs) c.self.view_is

pub returns-in-None : goal.returns-in-None
returns-in-None c =
    ap (λ (d : Option (Box Details Global)). (details_of d).outputs) (sym c.in-None.is)
    ∙ paths_are c.self.inside c.self.invariant
    ∙ ap (λ (o : Outlined). finite.values o.outputs) c.self.view_is
