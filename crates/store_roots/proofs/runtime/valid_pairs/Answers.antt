use Rattle.std.proofs.Common.{arith, ap, ◌∙◌}
use Rattle.std.specs.FinMap as finite
use Rattle.std.proofs.lemmas.List.{nil_from_length}
use Rattle.model.specs.World.{Pair, pair_cmp}
use Rattle.tables_outline.specs.Maps.{labelled_bytes, seen_set}
use Rattle.tables_outline.proofs.Orders.{pair_total, pair_antisymmetric}
use Rattle.intake.proofs.FirstEntries.{at_first, all_put}
use Rattle.store_roots.proofs.RuntimePairs.{entries_of, pushed, next_pair}
use Rattle.store_roots.proofs.runtime.valid_pairs.Goals as goal

pub loop-pair-init : goal.loop-pair-init
loop-pair-init c =
    let test = λ (p : Pair). finite.contains_key c.args.outline.now.objects p.1 in
    at_first pair_cmp (seen_set pair_cmp labelled_bytes c.new-valid.result.keys)
    (entries_of labelled_bytes test c.args.pairs.items)
    (ap (seen_set pair_cmp labelled_bytes) c.new-valid.ensures.empty)

pub loop-pair-preserved : goal.loop-pair-preserved
loop-pair-preserved c =
    let test = λ (p : Pair). finite.contains_key c.args.outline.now.objects p.1 in
    let all = entries_of labelled_bytes test in
    next_pair pair_cmp pair_total (test (labelled_bytes c.in-Some.pair)) (all c.loop-pair.left.items)
    (all c.pop.new.self.items) (labelled_bytes c.in-Some.pair)
    (seen_set pair_cmp labelled_bytes c.loop-pair.valid.keys)
    (seen_set pair_cmp labelled_bytes c.put_valid.new.valid.keys) (all c.args.pairs.items)
    (ap all c.in-Some.ensures.items ∙ pushed labelled_bytes test c.pop.new.self.items c.in-Some.pair)
    c.in_ok-put_valid.ensures c.loop-pair.invariant

pub returns : goal.returns
returns c =
    let test = λ (p : Pair). finite.contains_key c.args.outline.now.objects p.1 in
    let all = entries_of labelled_bytes test in
    let left = c.loop-pair.left in
    all_put pair_cmp pair_total pair_antisymmetric (all left.items)
    (seen_set pair_cmp labelled_bytes c.loop-pair.valid.keys) (all c.args.pairs.items)
    (ap all (nil_from_length left.items (omega (arith, c.in_default.ensures.cases.0, left.ok.0)))) c.loop-pair.invariant
