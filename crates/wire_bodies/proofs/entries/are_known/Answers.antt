use Rattle.std.proofs.Common.{◌≡◌, true, sym, ◌∙◌}
use Rattle.std.specs.List.{list_any}
use Rattle.std.specs.Str.{bytes_eq}
use Rattle.wire_bodies.specs.Lines.{Entry}
use Rattle.wire_bodies.specs.Values.{texts, are_known}
use Rattle.wire_bodies.proofs.ValueLemmas.{all_yes}
use Rattle.wire_bodies.proofs.Passing.{one_passed, not_all}
use Rattle.wire_bodies.proofs.entries.are_known.Goals as goal

pub lines-preserved : goal.lines-preserved
lines-preserved c =
    let keys = texts c.args.keys.now in
    let e : Entry = (c.in-Some.name.now, c.in-Some.field-0-1.now) in
    one_passed (λ es. are_known keys es ≡ true) (λ es. are_known keys es ≡ true) c.args.entries.now c.lines.left
    c.take_entry.new.self e c.lines.invariant c.in-Some.ensures
    (λ done are. all_yes (λ (d : Entry). list_any (bytes_eq d.0) keys) done e are
    (sym c.is_among.ensures ∙ c.if-not-is_among.false))

pub returns-then-not-is_among : goal.returns-then-not-is_among
returns-then-not-is_among c =
    let keys = texts c.args.keys.now in
    let e : Entry = (c.in-Some.name.now, c.in-Some.field-0-1.now) in
    sym (not_all (λ es. are_known keys es ≡ true) (λ (d : Entry). list_any (bytes_eq d.0) keys) c.args.entries.now
    c.lines.left c.take_entry.new.self e c.lines.invariant c.in-Some.ensures
    (sym c.is_among.ensures ∙ c.if-not-is_among.true))
