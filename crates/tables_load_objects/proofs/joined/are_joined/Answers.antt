use Rattle.std.proofs.Common.{sym, ◌∙◌}
use Rattle.tables_load_objects.proofs.Known.{references_reported, outputs_reported, pieces_reported, first_fails}
use Rattle.tables_load_objects.proofs.Known.{second_fails, both_pass}
use Rattle.tables_load_objects.proofs.joined.are_joined.Goals as goal

pub returns-then-not-are_references : goal.returns-then-not-are_references
returns-then-not-are_references c =
    let objects = c.args.outline.now.objects in
    let first =
    references_reported objects c.in_ok-paths.paths c.in_ok-paths.ensures c.deref.result.now
    c.args.joined.now.references.items c.deref.ensures.value c.are_references.result c.are_references.ensures in
    first_fails _ _ _ (sym first ∙ c.if-not-are_references.true)

pub returns-then-not-are_outputs : goal.returns-then-not-are_outputs
returns-then-not-are_outputs c =
    let objects = c.args.outline.now.objects in
    let first =
    references_reported objects c.in_ok-paths.paths c.in_ok-paths.ensures c.deref.result.now
    c.args.joined.now.references.items c.deref.ensures.value c.are_references.result c.are_references.ensures in
    let second =
    outputs_reported objects c.in_ok-paths.paths c.in_ok-paths.ensures c.deref-2.result.now
    c.args.joined.now.outputs.items c.deref-2.ensures.value c.are_outputs.result c.are_outputs.ensures in
    second_fails _ _ _ (sym first ∙ c.if-not-are_references.false) (sym second ∙ c.if-not-are_outputs.true)

pub returns : goal.returns
returns c =
    let objects = c.args.outline.now.objects in
    let first =
    references_reported objects c.in_ok-paths.paths c.in_ok-paths.ensures c.deref.result.now
    c.args.joined.now.references.items c.deref.ensures.value c.are_references.result c.are_references.ensures in
    let second =
    outputs_reported objects c.in_ok-paths.paths c.in_ok-paths.ensures c.deref-2.result.now
    c.args.joined.now.outputs.items c.deref-2.ensures.value c.are_outputs.result c.are_outputs.ensures in
    let third =
    pieces_reported objects c.in_ok-paths.paths c.in_ok-paths.ensures c.deref-3.result.now
    c.args.joined.now.pieces.items c.deref-3.ensures.value c.are_owned.result c.are_owned.ensures in
    both_pass _ _ _ _ (sym first ∙ c.if-not-are_references.false) (sym second ∙ c.if-not-are_outputs.false) third
