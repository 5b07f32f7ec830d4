use Rattle.std.proofs.Common.{ap, ◌∙◌}
use Rattle.std.specs.Prelude.{codes}
use Rattle.std.proofs.lemmas.Str.Pattern.{ends_text}
use Rattle.paths.specs.StorePath.{is_derivation}
use Rattle.paths.proofs.store_path.StorePath.is_derivation.Goals as goal

pub returns : goal.returns
returns c =
    ends_text c.ends_with.result (codes ".drv") c.deref.result.now c.ends_with.ensures.cases
    ∙ ap is_derivation (c.deref.ensures.value ∙ c.self.view_is)
