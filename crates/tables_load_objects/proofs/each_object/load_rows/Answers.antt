use Rattle.std.proofs.Common.{ap, sym, refl, ◌∙◌}
use Rattle.std.proofs.lemmas.Bool.{false≢true}
use Rattle.tables_rows.specs.Entries.{stored_of}
use Rattle.tables_load_objects.specs.Cut.{parts_of, whole_of}
use Rattle.tables_load_objects.specs.Tested.{named_of, targets_of}
use Rattle.tables_load_objects.specs.Loaded.{filled}
use Rattle.tables_load_objects.proofs.Takes.{cut_so, kept_found, pushed, sound_found}
use Rattle.tables_load_objects.proofs.each_object.load_rows.Goals as goal

pub returns-then-not-is_cut_by-clause-reported : goal.returns-then-not-is_cut_by-clause-reported
returns-then-not-is_cut_by-clause-reported c = (
  λ h. absurd (false≢true h),
  λ both. absurd (false≢true (sym c.if-not-is_cut_by.true ∙ c.is_cut_by.ensures.1
      (cut_so c.args.source.now.schema c.args.rows.object.nar.items c.deref.result.now c.args.rows.pieces.items
      c.deref-2.result.now (sym c.deref.ensures.value) (sym c.deref-2.ensures.value) both.0))),
)

pub returns-clause-reported : goal.returns-clause-reported
returns-clause-reported c =
    let rows = c.args.rows in
    let cut =
    cut_so c.args.source.now.schema c.deref.result.now rows.object.nar.items c.deref-2.result.now rows.pieces.items
    c.deref.ensures.value c.deref-2.ensures.value (c.is_cut_by.ensures.0 c.if-not-is_cut_by.false) in
    let sound =
    sound_found c.args.source.now.dir.now (
      (stored_of rows.object).0,
      whole_of (stored_of rows.object).1 (parts_of rows.pieces.items),
    ) (targets_of c.args.references.now)
    (named_of c.args.outputs.now) c.in_ok-path.field-0 (c.in-Some.path, c.in-Some.summary) c.in-Some.is
    c.in_ok-path.ensures in (
      λ _. (cut, sound),
      λ _. refl,
    )

pub returns-clause-loaded : goal.returns-clause-loaded
returns-clause-loaded c _ =
    let rows = c.args.rows in
    let kept =
    kept_found c.args.source.now.dir.now (
      (stored_of rows.object).0,
      whole_of (stored_of rows.object).1 (parts_of rows.pieces.items),
    ) (targets_of c.args.references.now)
    (named_of c.args.outputs.now) c.in_ok-path.field-0 (c.in-Some.path, c.in-Some.summary) c.in-Some.is
    c.in_ok-path.ensures in
    ap filled c.in_ok-push.ensures.items
    ∙ pushed c.args.found.now.items (c.in-Some.path, c.in-Some.summary) _ _ kept.0 kept.1
