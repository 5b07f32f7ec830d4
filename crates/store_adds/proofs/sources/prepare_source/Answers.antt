use Rattle.std.proofs.Common.{◌≡◌, ℕ, List, None, Some, sym, ap, subst, ◌∙◌}
use Rattle.nar.specs.Tree.{IsBytes}
use Rattle.intake.specs.Arrival.{bytes_in}
use Rattle.sha2.specs.Sha256.{sha256}
use Rattle.paths.specs.Path.{source_path}
use Rattle.paths.specs.ContentAddress.{ContentAddress}
use Rattle.paths.specs.declared.content_address.Method.TheVariants.{Source}
use Rattle.model.specs.Objects.{outputs_at}
use Rattle.tables_outline.specs.Outline.{Outlined, with_archive}
use Rattle.model.specs.Adds.{Added, added_source}
use Rattle.model.specs.Tests.{first_failing, source_tests}
use Rattle.store_adds.proofs.sources.prepare_source.Goals as goal

pub returns-clause-bytes : goal.returns-clause-bytes
returns-clause-bytes c = subst IsBytes (sym (ap bytes_in c.in_ok-nar.ensures.pieces)) c.in_ok-nar.ensures.reported.bytes

pub returns-clause-reported : goal.returns-clause-reported
returns-clause-reported c w is =
    let dir = c.args.dir.now in
    let name = c.args.name.now in
    let refs = c.args.refs.items in
    let nar = c.in_ok-nar.nar.pieces in
    let added : Added = record { path = c.in_ok-path.path; object = with_archive nar c.in_ok-object.object } in
    let hash : c.in_ok-nar.nar.nar_hash ≡ sha256 nar = c.in_ok-nar.ensures.reported.hash in
    let examined = c.in_ok-outputs.ensures w is in
    let path_is : c.in_ok-path.path ≡ source_path dir name refs nar =
    c.in_ok-path.ensures.value nar hash
    ∙ ap (λ (r : List (List ℕ)). source_path dir name r nar) c.deref.ensures.value in
    subst (λ (b : List ℕ). (first_failing (source_tests dir w (source_path dir name refs b) refs b) ≡ None)
    × (added ≡ added_source dir name refs b)) (sym (ap bytes_in c.in_ok-nar.ensures.pieces)) (
      sym (ap (λ (p : List ℕ). first_failing (source_tests dir w p refs nar)) path_is)
          ∙ ap (λ (r : List (List ℕ)). first_failing (source_tests dir w c.in_ok-path.path r nar))
          (sym c.deref-2.ensures.value) ∙ examined.0,
      λ i. record {
        path = path_is i;
        object = record {
          nar = nar;
          references = ap (λ (o : Outlined). o.references) c.in_ok-object.ensures i;
          deriver = ap (λ (o : Outlined). o.deriver) c.in_ok-object.ensures i;
          ca =
              (ap (λ (o : Outlined). o.ca) c.in_ok-object.ensures
              ∙ ap (λ (a : ContentAddress). Some a)
              (c.new.ensures ∙ ap (λ (h : List ℕ). let a : ContentAddress = record { method = Source; digest = h } in
              a) hash)) i;
          outputs =
              (ap (λ (o : Outlined). o.outputs) c.in_ok-object.ensures ∙ examined.1
              ∙ ap (λ (p : List ℕ). outputs_at dir p nar) path_is) i;
        };
      },
    )

pub invariant_of-added : goal.invariant_of-added
invariant_of-added c = record {
  size = ap (λ (o : Outlined). o.size) c.in_ok-object.ensures ∙ c.len.ensures;
  hash = ap (λ (o : Outlined). o.hash) c.in_ok-object.ensures ∙ c.in_ok-nar.ensures.reported.hash;
}
