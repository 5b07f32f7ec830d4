use Rattle.std.proofs.Common.{rules, ◌∙◌, ℕ, List, refl, sym, ap, subst}
use Rattle.std.specs.Prelude.{is_none}
use Rattle.intake.specs.Arrival.{bytes_in}
use Rattle.model.specs.Request as asked
use Rattle.wire_bodies.specs.declared.error.BodyError.TheVariants.{BadBodyHead}
use Rattle.wire_bodies.specs.Bodies.{IsImportBody}
use Rattle.wire_bodies.specs.Prefix.{rest_of}
use Rattle.wire_bodies.proofs.Passed.{same_fault}
use Rattle.wire_requests.specs.Kept.{bytes_of}
use Rattle.wire_requests.specs.View.{imported}
use Rattle.wire_requests.proofs.Parting.{lines_in, made_of}
use Rattle.wire_requests.proofs.adds.read_import.Goals as goal

pub returns-clause-whole : goal.returns-clause-whole
returns-clause-whole c = record {
  ok =
      let head = c.in_ok-head.head in
      let nar = bytes_in c.into_archive.result in
      let said = c.in_ok-head.ensures.ok (bytes_of c.args.body) (c.lines.ensures.prefix ∙ sym c.lines.ensures.now) in (
        head,
        nar,
        subst (λ rest. IsImportBody c.args.dir.now (bytes_of c.args.body) head rest)
            (c.lines.ensures.rest ∙ sym (ap bytes_in c.into_archive.ensures)) said,
        c.imported.ensures.view,
      );
  bad = λ same. absurd cc;
}

pub returns-clause-made : goal.returns-clause-made
returns-clause-made c = λ all is. record {
  ok =
      let head = c.in_ok-head.head in
      let lines = lines_in c.args.body.0 c.args.body.1 all is ∙ sym c.lines.ensures.now in
      let of = λ (nar : List ℕ). asked.import_object (imported head nar) in
      let made = made_of c.imported.result of c.args.body.1 c.args.body.0 all
      (c.imported.ensures.view ∙ ap (λ nar. of (bytes_in nar)) c.into_archive.ensures) refl
      (c.imported.ensures.spent ∙ ap is_none c.into_archive.ensures) is in
      (head, rest_of all, c.in_ok-head.ensures.ok all lines, made);
  bad = λ same. absurd cc;
}

pub returns-in_err-head-clause-whole : goal.returns-in_err-head-clause-whole
returns-in_err-head-clause-whole c = record {
  ok = search rules;
  bad = λ same head nar is.
      let reported =
      same_fault c.import_prefix.result c.from_residual.result c.in_err-head.field-0.0 BadBodyHead
      c.from_residual.ensures.1 c.in_err-head.was same in
      c.import_prefix.ensures.bad reported (bytes_of c.args.body) (c.lines.ensures.prefix ∙ sym c.lines.ensures.now)
      head nar is;
}

pub returns-in_err-head-clause-made : goal.returns-in_err-head-clause-made
returns-in_err-head-clause-made c = λ all is. record {
  ok = search rules;
  bad = λ same head nar body.
      let reported =
      same_fault c.import_prefix.result c.from_residual.result c.in_err-head.field-0.0 BadBodyHead
      c.from_residual.ensures.1 c.in_err-head.was same in
      c.import_prefix.ensures.bad reported all (lines_in c.args.body.0 c.args.body.1 all is ∙ sym c.lines.ensures.now)
      head nar body;
}
