use Rattle.std.proofs.Common.{arith, ◌-◌, length, drop, take_all, length-drop}
use Rattle.wire_server.proofs.Heads.{none_without_line_feed, only_too_long}
use Rattle.wire_server.proofs.Lines.{no_whole, no_part, feed_in_rest}
use Rattle.wire_server.proofs.head.look_for_head.Goals as goal

pub returns-then-not-contains-clause-found : goal.returns-then-not-contains-clause-found
returns-then-not-contains-clause-found c =
    let buf = c.args.buf.now in
    c.without_head.ensures (
    none_without_line_feed buf c.args.seen c.requires.within c.requires.none _
    (take_all (length buf - c.args.seen) (drop c.args.seen buf) (omega (arith, length-drop c.args.seen buf)))
    (rw c.if-not-contains.true at c.contains.ensures.cases))

pub returns-then-not-contains-clause-soon : goal.returns-then-not-contains-clause-soon
returns-then-not-contains-clause-soon c = λ line after shows later.
    let buf = c.args.buf.now in
    absurd (feed_in_rest buf line after _ c.args.seen shows later
    (take_all (length buf - c.args.seen) (drop c.args.seen buf) (omega (arith, length-drop c.args.seen buf)))
    (rw c.if-not-contains.true at c.contains.ensures.cases))

-- src/head.rt:32:1
pub returns-else-spans-le-MAX_HEAD-clause-found : goal.returns-else-spans-le-MAX_HEAD-clause-found
returns-else-spans-le-MAX_HEAD-clause-found c =
    let is = rw c.in-Ok-Complete.field-0-is at c.in-Ok-Complete.ensures.complete in
    only_too_long c.args.buf.now is.0 _ is.1.reads (let e = is.1.len in omega (arith, is.1.len))

pub returns-then-spans-le-MAX_HEAD-clause-soon : goal.returns-then-spans-le-MAX_HEAD-clause-soon
returns-then-spans-le-MAX_HEAD-clause-soon c = λ line after shows later.
    let is = rw c.in-Ok-Complete.field-0-is at c.in-Ok-Complete.ensures.complete in
    absurd (no_whole c.args.buf.now line after shows is.0 _ is.1.reads)

pub returns-in-Ok-Partial-clause-soon : goal.returns-in-Ok-Partial-clause-soon
returns-in-Ok-Partial-clause-soon c = λ line after shows later.
    absurd (no_part c.args.buf.now line after shows
    (rw c.in-Ok-Partial.field-0-is at c.in-Ok-Partial.ensures.unfinished))
