use Rattle.std.proofs.Common.{◌≡◌, ℕ, List, Some, length, drop, arith, sym, ap, ◌∙◌}
use Rattle.std.specs.Prelude.{nat_le}
use Rattle.paths.specs.declared.content_address.Method.TheVariants.{Text}
use Rattle.paths.specs.Path.{text_path}
use Rattle.paths.specs.ContentAddress.{ContentAddress}
use Rattle.model.specs.Objects.{outputs_at, most_references}
use Rattle.tables_outline.specs.Outline.{Outlined}
use Rattle.model.specs.Adds.{text_archive}
use Rattle.model.specs.declared.refusal.Refusal.TheVariants.{TooManyReferences}
use Rattle.model.specs.Tests.{first_failing, text_tests, unless}
use Rattle.store_promises.proofs.Passing.{pass}
use Rattle.store_adds.proofs.texts.prepare_text.Goals as goal

abbrev as_address : List ℕ → ContentAddress
as_address digest = record { method = Text; digest = digest }

pub invariant_of-added : goal.invariant_of-added
invariant_of-added c = record {
  size = ap (λ (o : Outlined). o.size) c.in_ok-object.ensures ∙ c.len-size.ensures;
  hash = ap (λ (o : Outlined). o.hash) c.in_ok-object.ensures ∙ c.in_ok-archive.ensures.hash;
}

pub returns-clause-bytes : goal.returns-clause-bytes
returns-clause-bytes c = λ i. omega (arith, c.type_inv.contents i)

pub returns-clause-reported : goal.returns-clause-reported
returns-clause-reported c w is =
    let dir = c.args.dir.now in
    let contents = c.args.contents.now in
    let refs = c.args.refs.items in
    let examined = c.in_ok-outputs.ensures w is in
    let path_is : c.in_ok-path.path ≡ text_path dir c.args.name.now refs contents =
    c.in_ok-path.ensures.value contents c.in_ok-archive.ensures.contents
    ∙ ap (λ (r : List (List ℕ)). text_path dir c.args.name.now r contents) c.deref-2.ensures.value in (
      sym (ap (λ (p : List ℕ). first_failing (text_tests dir w p refs contents)) path_is)
          ∙ pass _ _ (ap (λ (r : List (List ℕ)). unless (nat_le (length r) most_references) TooManyReferences)
          (sym c.deref.ensures.value) ∙ c.in_ok-are_few.ensures)
          ∙ pass _ _ c.in_ok-has_archive.ensures.reported
          ∙ ap (λ (r : List (List ℕ)). first_failing (drop 2 (text_tests dir w c.in_ok-path.path r contents)))
          (sym c.deref-3.ensures.value) ∙ examined.0,
      λ i. record {
        path = path_is i;
        object = record {
          nar = c.in_ok-archive.ensures.pieces i;
          references = ap (λ (o : Outlined). o.references) c.in_ok-object.ensures i;
          deriver = ap (λ (o : Outlined). o.deriver) c.in_ok-object.ensures i;
          ca =
              (ap (λ (o : Outlined). o.ca) c.in_ok-object.ensures
              ∙ ap (λ (a : ContentAddress). Some a)
              (c.new-ca.ensures ∙ ap as_address c.in_ok-archive.ensures.contents)) i;
          outputs =
              (ap (λ (o : Outlined). o.outputs) c.in_ok-object.ensures ∙ examined.1
              ∙ ap (λ (p : List ℕ). outputs_at dir p (text_archive contents)) path_is) i;
        };
      },
    )
