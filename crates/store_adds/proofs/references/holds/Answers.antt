use Rattle.std.proofs.Common.{◌∙◌}
use Rattle.std.specs.List.{list_any}
use Rattle.std.specs.Cmp.{eq_by_cmp_equiv}
use Rattle.std.specs.Cmp.Lexicographic.{nat_list_cmp_total, texts_ties}
use Rattle.store_adds.proofs.references.holds.Goals as goal

pub returns : goal.returns
returns c =
    c.contains.ensures.value
    ∙ λ i. list_any (λ r. (texts_ties r c.args.path.now ∙ (eq_by_cmp_equiv nat_list_cmp_total).symm r c.args.path.now)
    i) c.args.refs.now
