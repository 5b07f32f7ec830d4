use Rattle.std.proofs.Common.{◌≡◌, Bool, true, false, sym, ap, ◌∙◌, ◌-◌, arith, length, take, drop, take_all}
use Rattle.std.proofs.Common.{length-drop}
use Rattle.std.specs.Prelude.{◌||◌, List, ℕ}
use Rattle.wire_server.specs.Heads.{WasSeen, has_begun_in}
use Rattle.wire_server.proofs.Beginnings.{has_begun_in-parts, none_in_line_ends}
use Rattle.wire_server.proofs.head.look_again.Goals as goal

-- what is known of the bytes that were seen and of those that came is known of all
begun_of : (buf : List ℕ) (seen : ℕ) (before begun : Bool) → WasSeen buf seen before
    → begun ≡ (before || has_begun_in (take (length buf - seen) (drop seen buf))) → begun ≡ has_begun_in buf
begun_of buf seen before begun was is =
    let rest = drop seen buf in
    let all = take_all (length buf - seen) rest (omega (arith, length-drop seen buf)) in
    is ∙ ap (λ t. before || has_begun_in t) all ∙ ap (λ b. b || has_begun_in rest) was.begun
    ∙ sym (has_begun_in-parts seen buf)

pub returns-then-begun-clause-begun : goal.returns-then-begun-clause-begun
returns-then-begun-clause-begun c =
    begun_of c.args.buf.now c.args.seen c.args.before c.has_begun-begun.result c.requires c.has_begun-begun.ensures

pub returns-else-begun-clause-begun : goal.returns-else-begun-clause-begun
returns-else-begun-clause-begun c =
    begun_of c.args.buf.now c.args.seen c.args.before c.has_begun-begun.result c.requires c.has_begun-begun.ensures

pub returns-else-begun-clause-found : goal.returns-else-begun-clause-found
returns-else-begun-clause-found c =
    let is =
    begun_of c.args.buf.now c.args.seen c.args.before c.has_begun-begun.result c.requires
    c.has_begun-begun.ensures in
    c.without_head.ensures (none_in_line_ends c.args.buf.now (sym is ∙ c.if-begun.false))

pub returns-else-begun-clause-soon : goal.returns-else-begun-clause-soon
returns-else-begun-clause-soon c = λ has line after shows later.
    let is =
    begun_of c.args.buf.now c.args.seen c.args.before c.has_begun-begun.result c.requires
    c.has_begun-begun.ensures in
    absurd (let both : true ≡ false = sym has ∙ sym is ∙ c.if-begun.false in cc)
