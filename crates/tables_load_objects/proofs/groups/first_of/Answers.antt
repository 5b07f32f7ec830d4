use Rattle.std.proofs.Common.{◌≡◌, true, false, rules, of_calls, sym, ap, ◌∙◌}
use Rattle.std.proofs.lemmas.List.Sorted.{IsPartitionPoint-from_clause}
use Rattle.std.specs.Cmp.Lexicographic.{texts_ties}
use Rattle.std.specs.Option.{option_copied}
use Rattle.std.specs.Ordering.{eq_by_cmp}
use Rattle.std.specs.Str.{bytes_eq}
use Rattle.paths.specs.Root.{bytes_cmp}
use Rattle.tables_outline.proofs.Orders.{bytes_antisymmetric}
use Rattle.tables_outline.proofs.Puts.{tied_is}
use Rattle.tables_load_objects.proofs.OwnRows.{is_own, below, below_parted, first_found}
use Rattle.tables_load_objects.proofs.groups.first_of.Goals as goal

pub returns-in_default-clause-any : goal.returns-in_default-clause-any
returns-in_default-clause-any g c up =
    let xs = c.args.rows.now in
    let p = c.args.base.now in
    let key = g.T.OfPath.base_of in
    let start = c.partition_point-start in
    let point =
    IsPartitionPoint-from_clause (below key p) xs start.result start.ensures.partitioned (below_parted key p xs up)
    (λ a r f k. search (rules, of_calls)) in
    sym (first_found key p xs c.split_at.result.1.now up start.result start.ensures.bound point c.split_at.ensures.back
    (option_copied c.first.result) c.first.ensures.value
    ∙ ap (λ o. is_own key p (option_copied o)) c.in_default.is)

pub returns-then-eq-clause-found : goal.returns-then-eq-clause-found
returns-then-eq-clause-found g c =
    let p = c.args.base.now in
    let key = g.T.OfPath.base_of in
    let x = c.in-Some.first.now in
    let same : bytes_eq p (key x) ≡ true =
    (let b = c.base.ensures in let e = c.eq.ensures in let t = c.if-eq.true in cc) in
    tied_is bytes_antisymmetric p (key x) (sym (texts_ties p (key x)) ∙ same)

pub returns-then-eq-clause-any : goal.returns-then-eq-clause-any
returns-then-eq-clause-any g c up =
    let xs = c.args.rows.now in
    let p = c.args.base.now in
    let key = g.T.OfPath.base_of in
    let x = c.in-Some.first.now in
    let start = c.partition_point-start in
    let point =
    IsPartitionPoint-from_clause (below key p) xs start.result start.ensures.partitioned (below_parted key p xs up)
    (λ a r f k. search (rules, of_calls)) in
    let same : bytes_eq p (key x) ≡ true =
    (let b = c.base.ensures in let e = c.eq.ensures in let t = c.if-eq.true in cc) in
    let own : eq_by_cmp bytes_cmp p (key x) ≡ true = sym (texts_ties p (key x)) ∙ same in
    sym (first_found key p xs c.split_at.result.1.now up start.result start.ensures.bound point c.split_at.ensures.back
    (option_copied c.first.result) c.first.ensures.value
    ∙ ap (λ o. is_own key p (option_copied o)) c.in-Some.is ∙ own)

pub returns-else-eq-clause-any : goal.returns-else-eq-clause-any
returns-else-eq-clause-any g c up =
    let xs = c.args.rows.now in
    let p = c.args.base.now in
    let key = g.T.OfPath.base_of in
    let x = c.in-Some.first.now in
    let start = c.partition_point-start in
    let point =
    IsPartitionPoint-from_clause (below key p) xs start.result start.ensures.partitioned (below_parted key p xs up)
    (λ a r f k. search (rules, of_calls)) in
    let other : bytes_eq p (key x) ≡ false =
    (let b = c.base.ensures in let e = c.eq.ensures in let t = c.if-eq.false in cc) in
    sym (first_found key p xs c.split_at.result.1.now up start.result start.ensures.bound point c.split_at.ensures.back
    (option_copied c.first.result) c.first.ensures.value
    ∙ ap (λ o. is_own key p (option_copied o)) c.in-Some.is ∙ (sym (texts_ties p (key x)) ∙ other))
