use Rattle.std.proofs.Common.{take}
use Rattle.wire_server.proofs.Named.{one_more, no_more}
use Rattle.wire_server.proofs.fields.values_of.Goals as goal
use Rattle.wire_server.proofs.fields.values_of.Goals.{then-eq_ignore_ascii_case, else-eq_ignore_ascii_case}

-- src/fields.rt:26:5
pub loop-field-preserved : goal.loop-field-preserved
loop-field-preserved c =
    let buf = c.args.fields.now.buf.now in
    let name = c.args.name.now in
    let items = take c.args.fields.now.head.now.spans.headers c.args.fields.now.head.now.fields in
    let i = c.loop-field.field-index in
    elim c.if-eq_ignore_ascii_case.branch [
      | then-eq_ignore_ascii_case w ↦
          rw (
            one_more buf name items i _ c.loop-field-test.true _ c.of.ensures _ c.eq_ignore_ascii_case.ensures.test
                w.if-eq_ignore_ascii_case.true _ w.of-then-eq_ignore_ascii_case.ensures,
            w.found-is,
          )
          (w.with_another-found.ensures _ c.loop-field.invariant)
      | else-eq_ignore_ascii_case w ↦
          rw (
            no_more buf name items i _ c.loop-field-test.true _ c.of.ensures _ c.eq_ignore_ascii_case.ensures.test
                w.if-eq_ignore_ascii_case.false,
            w.found-is,
          ) c.loop-field.invariant
    ]
