-- The bytes that were seen have no head and no line that shows that there is none, it is known whether they are line
-- ends alone, and what is held is what was there and what was taken. At most one read came after the bytes that were
-- seen, fewer than a head has at most.
use Rattle.std.proofs.Common.{◌≡◌, ◌<◌, ◌≤◌, ◌-◌, ◌+◌, max, length, take}
use Rattle.httparse.specs.Grammar.{HasNoRequest}
use Rattle.wire_server.specs.Heads.{ShowsNothing, has_begun_in}
use Rattle.wire_server.proofs.Reading.{Took}
use Rattle.wire_server.proofs.message.receive_start.Given as goal

abbrev pub invariant-head : goal.invariant-head
invariant-head g l = record {
  took : Took (g.R.Read.remaining l.fn.input) (g.R.Read.remaining l.input) l.fn.buffer.items l.buffer.items;
  none : HasNoRequest (take l.seen l.buffer.items);
  shown : ShowsNothing (take l.seen l.buffer.items);
  begun : l.begun ≡ has_begun_in (take l.seen l.buffer.items);
  within : l.seen ≤ length l.buffer.items;
  some : 0 < length l.buffer.items;
  short : l.seen < 16384;
  few : length l.buffer.items ≤ max (length l.fn.buffer.items) (l.seen + 4096);
}

abbrev pub decreases-head : goal.decreases-head
decreases-head g l = 16384 - length l.buffer.items
