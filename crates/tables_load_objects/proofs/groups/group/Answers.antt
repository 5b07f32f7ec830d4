use Rattle.std.proofs.Common.{rules, of_calls, ◌≡◌, true, false, sym, subst, ◌∙◌}
use Rattle.std.proofs.lemmas.List.Sorted.{IsPartitionPoint-from_clause}
use Rattle.std.specs.List.Sorted.{IsPartitionedBy, IsPartitionPoint}
use Rattle.std.specs.Str.{bytes_eq}
use Rattle.tables_load_objects.proofs.OwnRows.{own_texts, below, below_parted, own_parted, group_found}
use Rattle.tables_load_objects.proofs.groups.group.Goals as goal

pub returns : goal.returns
returns g c up =
    let xs = c.args.rows.now in
    let p = c.args.base.now in
    let key = g.T.OfPath.base_of in
    let start = c.partition_point-start in
    let count = c.partition_point-count in
    let rest = c.split_at.result.1.now in
    let first =
    IsPartitionPoint-from_clause (below key p) xs start.result start.ensures.partitioned (below_parted key p xs up)
    (λ a r f k. search (rules, of_calls)) in
    let parts =
    subst (λ q. IsPartitionedBy q rest) (sym (own_texts key p))
    (own_parted key p xs rest up start.result start.ensures.bound first c.split_at.ensures.back) in
    let tested =
    IsPartitionPoint-from_clause (λ row. bytes_eq p (key row)) rest count.result count.ensures.partitioned parts
    (λ a r f k. search (rules, of_calls)) in
    let second =
    subst (λ q. IsPartitionPoint (λ y. q y ≡ true) (λ y. q y ≡ false) rest count.result) (own_texts key p) tested in
    c.split_at-2.ensures.front ∙ group_found key p xs rest up start.result start.ensures.bound first
    c.split_at.ensures.back count.result count.ensures.bound second
