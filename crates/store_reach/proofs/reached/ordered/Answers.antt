use Rattle.std.proofs.Common.{◌≡◌, ◌<◌, List, ℕ, true, cond, length, get_or, map, take, sym, ap, subst, ◌∙◌}
use Rattle.std.specs.List.Sorted.{IsStrictlySortedBy}
use Rattle.std.proofs.lemmas.Iterator.{items_from_collect}
use Rattle.std.proofs.lemmas.Iterator.Consumers.{YieldsList-from_rest}
use Rattle.std.proofs.lemmas.Result.{IfOk-weaker}
use Rattle.paths.specs.Root.{bytes_cmp}
use Rattle.live.specs.Graph.{Path, holds, same}
use Rattle.tables_outline.specs.LinkNames.{name_at}
use Rattle.store_reach.proofs.Deleted.{consumed_more}
use Rattle.std.proofs.lemmas.List.{take_all}
use Rattle.store_reach.proofs.PathsFound.{inserted}
use Rattle.store_reach.proofs.reached.ordered.Goals as goal

pub loop-number-preserved : goal.loop-number-preserved
loop-number-preserved c p =
    let name = name_at c.args.links.now.names in
    let numbers = c.args.numbers.now in
    let i = c.loop-number.number-index in
    let inside : i < length numbers = c.loop-number-test.true in
    let key : c.in_ok-clone.field-0 ≡ name (get_or numbers i 0) = c.in_ok-clone.ensures.cases ∙ c.path.ensures in
    inserted c.loop-number.paths.keys c.insert.new.self.keys (map name (take i numbers)) (name (get_or numbers i 0))
    (λ q. c.in_ok-insert.ensures.updates.0 q
    ∙ ap (λ (k : Path). cond (same k q) true (holds c.loop-number.paths.keys q)) key)
    c.loop-number.invariant p
    ∙ ap (λ (ps : List Path). holds ps p) (consumed_more name numbers i inside)

pub returns-clause-rise : goal.returns-clause-rise
returns-clause-rise c =
    let gives = c.into_iter.ensures.into_iter_gives in
    IfOk-weaker c.collect.result _ _
    (λ v e. subst (λ (ps : List Path). IsStrictlySortedBy bytes_cmp ps) (sym e) gives.4)
    (items_from_collect c.collect.result c.collect.ensures.ran (YieldsList-from_rest c.loop-number.paths.keys gives.0))

pub returns-clause-those : goal.returns-clause-those
returns-clause-those c =
    let gives = c.into_iter.ensures.into_iter_gives in
    let numbers = c.args.numbers.now in
    let whole : take c.loop-number.number-index numbers ≡ numbers =
    take_all c.loop-number.number-index numbers c.loop-number-test.false in
    IfOk-weaker c.collect.result _ _
    (λ v e p. ap (λ (ps : List Path). holds ps p) e ∙ c.loop-number.invariant p
    ∙ ap (λ (ns : List ℕ). holds (map (name_at c.args.links.now.names) ns) p) whole)
    (items_from_collect c.collect.result c.collect.ensures.ran (YieldsList-from_rest c.loop-number.paths.keys gives.0))
