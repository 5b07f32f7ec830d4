use Rattle.std.proofs.Common.{◌<◌, Some, length, option_map, arith, refl, sym, ap, ◌∙◌}
use Rattle.std.proofs.lemmas.List.{length-map}
use Rattle.live.specs.Arguments.{row_view, rows_view}
use Rattle.store_reach.proofs.FirstLive.{first_here, marked_at, not_yet}
use Rattle.store_reach.proofs.first_root.first_mark.Goals as goal

pub returns-in-Some-first_root-clause-root : goal.returns-in-Some-first_root-clause-root
returns-in-Some-first_root-clause-root c root root_of marked =
    let inside : c.loop-path.path-index < length c.args.named.now = (let t = c.loop-path-test.true in omega arith) in
    let placed : c.in-Some.place < length (rows_view c.args.rows.now) =
    (let n = length-map c.args.rows.now row_view in let l = c.in-Some.ensures.found.0 in omega (arith, n, l)) in
    let at =
    marked_at (rows_view c.args.rows.now) c.args.marks.now root root_of marked c.in-Some.place placed
    c.path-item.result c.in-Some.ensures.found.1 in
    sym (first_here root_of c.args.named.now c.loop-path.path-index c.path-item.result inside
    (c.loop-path.invariant root root_of marked) c.path-item.is
    (Some (root c.in-Some-first_root.root)) (at ∙ sym (ap (option_map root) c.in-Some-first_root.ensures)) refl)

pub loop-path-preserved : goal.loop-path-preserved
loop-path-preserved c root root_of marked =
    let inside : c.loop-path.path-index < length c.args.named.now = (let t = c.loop-path-test.true in omega arith) in
    let placed : c.in-Some.place < length (rows_view c.args.rows.now) =
    (let n = length-map c.args.rows.now row_view in let l = c.in-Some.ensures.found.0 in omega (arith, n, l)) in
    let at =
    marked_at (rows_view c.args.rows.now) c.args.marks.now root root_of marked c.in-Some.place placed
    c.path-item.result c.in-Some.ensures.found.1 in
    not_yet root_of c.args.named.now c.loop-path.path-index c.path-item.result inside
    (c.loop-path.invariant root root_of marked) c.path-item.is
    (at ∙ sym (ap (option_map root) c.in_default-first_root.ensures))

pub loop-path-preserved-in_default : goal.loop-path-preserved-in_default
loop-path-preserved-in_default c root root_of marked =
    let inside : c.loop-path.path-index < length c.args.named.now = (let t = c.loop-path-test.true in omega arith) in
    not_yet root_of c.args.named.now c.loop-path.path-index c.path-item.result inside
    (c.loop-path.invariant root root_of marked) c.path-item.is
    (marked.nowhere c.path-item.result c.in_default.ensures.none)
