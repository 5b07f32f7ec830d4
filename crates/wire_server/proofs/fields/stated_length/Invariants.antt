use Rattle.std.proofs.Common.{◌≡◌, true, take, min}
use Rattle.std.specs.List.{list_all}
use Rattle.std.specs.Char.{is_ascii_digit}
use Rattle.std.specs.Str.Parse.{digits_value}
use Rattle.wire_server.proofs.fields.stated_length.Given as goal

-- the number that the digits so far write, unless it is too large
abbrev pub invariant-loop-byte : goal.invariant-loop-byte
invariant-loop-byte l =
    (list_all is_ascii_digit (take l.byte-index l.text) ≡ true)
    × (l.length ≡ min (digits_value 10 (take l.byte-index l.text)) 20971521)
