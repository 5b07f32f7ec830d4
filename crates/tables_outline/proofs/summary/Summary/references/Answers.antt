use Rattle.std.proofs.Common.{sym, ap, ◌∙◌}
use Rattle.std.specs.FinMap as finite
use Rattle.tables_outline.specs.Outline.{Outlined}
use Rattle.tables_outline.proofs.Ordered.{keys_rise}
use Rattle.tables_outline.proofs.summary.Summary.references.Goals as goal

pub returns : goal.returns
returns c =
    c.as_slice.ensures.value ∙ sym (keys_rise c.self.inside.references.items c.self.invariant.references)
    ∙ ap (λ (o : Outlined). finite.keys o.references) c.self.view_is
