use Rattle.std.proofs.Common.{◌≡◌, None, ap, subst, ◌∙◌}
use Rattle.tables_outline.specs.Outline.{Outlined, with_archive}
use Rattle.model.specs.Request.{Imported}
use Rattle.model.specs.Soundness.{IsWellFormedImport}
use Rattle.model.specs.Adds.{Added, added_import}
use Rattle.model.specs.Tests.{first_failing, import_tests}
use Rattle.store_adds.proofs.imports.prepare_import.Goals as goal

pub returns-clause-formed : goal.returns-clause-formed
returns-clause-formed c = subst IsWellFormedImport c.in_ok-import.ensures.same c.in_ok-outputs.ensures.formed

pub returns-clause-reported : goal.returns-clause-reported
returns-clause-reported c w is =
    let dir = c.args.dir.now in
    let d = c.in_ok-import.import in
    let added : Added = record { path = d.path; object = with_archive d.nar.pieces c.in_ok-object.object } in
    let examined = c.in_ok-outputs.ensures.reported w is in
    subst (λ (i : Imported). (first_failing (import_tests dir w i) ≡ None) × (added ≡ added_import dir i))
    c.in_ok-import.ensures.same (
      examined.0,
      λ i. record {
        path = d.path;
        object = record {
          nar = d.nar.pieces;
          references = ap (λ (o : Outlined). o.references) c.in_ok-object.ensures i;
          deriver = ap (λ (o : Outlined). o.deriver) c.in_ok-object.ensures i;
          ca = ap (λ (o : Outlined). o.ca) c.in_ok-object.ensures i;
          outputs = (ap (λ (o : Outlined). o.outputs) c.in_ok-object.ensures ∙ examined.1) i;
        };
      },
    )
