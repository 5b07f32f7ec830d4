use Rattle.std.proofs.Common.{take}
use Rattle.std.specs.Prelude.{map}
use Rattle.httparse.specs.Spans.{header_bytes}
use Rattle.wire_server.specs.Fields.{Are, values}
use Rattle.wire_server.proofs.fields.values_of.Given as goal

abbrev pub invariant-loop-field : goal.invariant-loop-field
invariant-loop-field l = Are (values l.name (map (header_bytes l.buf) (take l.field-index l.field-items))) l.found
