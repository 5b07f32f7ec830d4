use Rattle.std.proofs.Common.{Ok, arith, sym, ap, ◌∙◌}
use Rattle.std.specs.Prelude.{if◌then◌else◌}
use Rattle.std.specs.FinMap as finite
use Rattle.nar.specs.declared.error.NarError.{NarError}
use Rattle.nar.specs.Tree.{IsBytes}
use Rattle.paths.specs.StorePath.{is_derivation}
use Rattle.model.specs.Objects.{tree_outputs}
use Rattle.model.specs.Tests.{if_derivation, tree_fault}
use Rattle.store_promises.proofs.Passing.{pass}
use Rattle.store_adds.proofs.TextArchives.{outputs_of_text}
use Rattle.store_adds.proofs.text_tests.examine_text.Goals as goal

pub returns : goal.returns
returns c w is =
    let dir = c.args.dir.now in
    let p = c.args.path.now in
    let contents = c.args.contents.now in
    let bytes : IsBytes contents = λ i. omega (arith, c.type_inv.contents i) in (
      pass _ _ c.in_ok-are_others.ensures
          ∙ pass _ _ (ap (λ t. if_derivation p (tree_fault dir (Ok t))) (sym c.plain-file.ensures)
          ∙ c.in_ok-outputs.ensures.0) ∙ pass _ _ (c.in_ok-are_valid.ensures w is),
      c.in_ok-outputs.ensures.1 ∙ ap
          (λ t. if is_derivation p then tree_outputs {E = NarError} dir (Ok t) else finite.empty) c.plain-file.ensures
          ∙ sym (outputs_of_text dir p contents bytes c.requires),
    )
