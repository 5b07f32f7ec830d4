use Rattle.std.proofs.Common.{refl, take, ◌∙◌}
use Rattle.wire_server.proofs.Named.{one_more, no_more, any_step, same_texts, stays, turns}
use Rattle.wire_server.proofs.fields.has_value.Goals as goal
use Rattle.wire_server.proofs.fields.has_value.Goals.{then-eq_ignore_ascii_case+then-found}
use Rattle.wire_server.proofs.fields.has_value.Goals.{then-eq_ignore_ascii_case+else-found, else-eq_ignore_ascii_case}

pub loop-field-preserved : goal.loop-field-preserved
loop-field-preserved c =
    let buf = c.args.fields.now.buf.now in
    let name = c.args.name.now in
    let items = take c.args.fields.now.head.now.spans.headers c.args.fields.now.head.now.fields in
    let i = c.loop-field.field-index in
    elim c.if-eq_ignore_ascii_case.branch [
      | then-eq_ignore_ascii_case+then-found w ↦
          any_step c.loop-field.found _ c.args.value.now _ _ _
          (one_more buf name items i _ c.loop-field-test.true _ c.of.ensures _ c.eq_ignore_ascii_case.ensures.test
          w.if-eq_ignore_ascii_case.true _ refl)
          c.loop-field.invariant (stays _ _ _ w.found-is w.if-found.true)
      | then-eq_ignore_ascii_case+else-found w ↦
          any_step c.loop-field.found _ c.args.value.now _ _ w.of-else-found.result.now
          (one_more buf name items i _ c.loop-field-test.true _ c.of.ensures _ c.eq_ignore_ascii_case.ensures.test
          w.if-eq_ignore_ascii_case.true _ w.of-else-found.ensures)
          c.loop-field.invariant
          (turns _ _ _ (w.found-is ∙ same_texts w.of-else-found.result.now c.args.value.now _
          w.eq_ignore_ascii_case-found.ensures.test) w.if-found.false)
      | else-eq_ignore_ascii_case w ↦
          rw (
            no_more buf name items i _ c.loop-field-test.true _ c.of.ensures _ c.eq_ignore_ascii_case.ensures.test
                w.if-eq_ignore_ascii_case.false,
            w.found-is,
          ) c.loop-field.invariant
    ]
