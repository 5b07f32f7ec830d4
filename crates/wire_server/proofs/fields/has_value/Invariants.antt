use Rattle.std.proofs.Common.{◌≡◌, take}
use Rattle.std.specs.Prelude.{map}
use Rattle.std.specs.List.{list_any}
use Rattle.std.specs.Str.{str_eq_ignore_ascii_case}
use Rattle.httparse.specs.Spans.{header_bytes}
use Rattle.wire_server.specs.Fields.{values}
use Rattle.wire_server.proofs.fields.has_value.Given as goal

-- whether a field so far has the name and the value
abbrev pub invariant-loop-field : goal.invariant-loop-field
invariant-loop-field l =
    l.found ≡ list_any (λ v. str_eq_ignore_ascii_case v l.value)
    (values l.name (map (header_bytes l.buf) (take l.field-index l.field-items)))
