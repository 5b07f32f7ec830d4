use Rattle.std.proofs.Common.{◌∙◌}
use Rattle.tables_writes.proofs.Outlined.{cloned_is}
use Rattle.store.proofs.records.record.Goals as goal

pub returns : goal.returns
returns c = λ i. record {
  path = c.args.path;
  hash = c.hash.ensures i;
  size = c.size.ensures i;
  references = (c.in_ok-references.ensures.items_if_clones_equal (λ x y h. h) ∙ c.references.ensures) i;
  deriver = (cloned_is c.deriver.result c.in_ok-deriver.deriver c.in_ok-deriver.ensures ∙ c.deriver.ensures) i;
  ca = c.ca.ensures i;
}
