use Rattle.std.proofs.Common.{arith, string_bytes, ap, ◌∙◌}
use Rattle.std.specs.Cmp.Lexicographic.{nat_list_cmp_total}
use Rattle.std.proofs.lemmas.List.{map_push, nil_from_length}
use Rattle.paths.specs.Root.{bytes_cmp}
use Rattle.drv.specs.View.{pairs}
use Rattle.intake.specs.Recorded.{outputs_view}
use Rattle.intake.proofs.Inserted.{bytes_antisymmetric, inserted}
use Rattle.intake.proofs.FirstEntries.{at_first, put_next, all_put}
use Rattle.intake.proofs.recorded.by_name.Goals as goal

pub loop-name-init : goal.loop-name-init
loop-name-init c =
    at_first bytes_cmp (outputs_view c.new-map.result.entries) (pairs c.args.found.items)
    (ap outputs_view c.new-map.ensures.empty)

pub loop-name-preserved-in_ok-insert : goal.loop-name-preserved-in_ok-insert
loop-name-preserved-in_ok-insert c =
    put_next bytes_cmp nat_list_cmp_total (pairs c.loop-name.left.items) (pairs c.pop.new.self.items)
    (string_bytes c.in-Some.name) c.in-Some.path
    (outputs_view c.loop-name.map.entries) (outputs_view c.insert.new.self.entries) (pairs c.args.found.items)
    (ap pairs c.in-Some.ensures.items
    ∙ map_push (λ x. (string_bytes x.0, x.1)) c.pop.new.self.items (c.in-Some.name, c.in-Some.path))
    (ap outputs_view c.in_ok-insert.ensures.entries ∙ inserted c.loop-name.map.entries c.in-Some.name c.in-Some.path)
    c.loop-name.invariant

pub loop-name-preserved : goal.loop-name-preserved
loop-name-preserved c =
    put_next bytes_cmp nat_list_cmp_total (pairs c.loop-name.left.items) (pairs c.pop.new.self.items)
    (string_bytes c.in-Some.name) c.in-Some.path
    (outputs_view c.loop-name.map.entries) (outputs_view c.insert.new.self.entries) (pairs c.args.found.items)
    (ap pairs c.in-Some.ensures.items
    ∙ map_push (λ x. (string_bytes x.0, x.1)) c.pop.new.self.items (c.in-Some.name, c.in-Some.path))
    (ap outputs_view c.in_ok-insert.ensures.entries ∙ inserted c.loop-name.map.entries c.in-Some.name c.in-Some.path)
    c.loop-name.invariant

pub returns : goal.returns
returns c =
    let left = c.loop-name.left in
    all_put bytes_cmp nat_list_cmp_total bytes_antisymmetric (pairs left.items) (outputs_view c.loop-name.map.entries)
    (pairs c.args.found.items)
    (ap pairs (nil_from_length left.items (omega (arith, c.in_default.ensures.cases.0, left.ok.0))))
    c.loop-name.invariant
