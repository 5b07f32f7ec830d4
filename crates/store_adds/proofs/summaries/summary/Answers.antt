use Rattle.std.proofs.Common.{ℕ, List, sym, ap, subst, ◌∙◌, IsTrue}
use Rattle.paths.specs.Root.{bytes_cmp, set_of}
use Rattle.tables_outline.specs.Outline.{rise}
use Rattle.store_adds.proofs.Ordered.{keys_of_set_rise, set_again}
use Rattle.store_adds.proofs.summaries.summary.Goals as goal

pub new-requires-clause-references : goal.new-requires-clause-references
new-requires-clause-references c =
    subst (λ (l : List (List ℕ)). IsTrue (rise l)) (sym c.in_order.ensures)
    (keys_of_set_rise (set_of bytes_cmp c.args.recorded.refs.items))

pub returns : goal.returns
returns c =
    c.in_ok-object.ensures ∙ (λ i. record {
      size = c.args.size;
      hash = c.args.hash;
      references =
          (ap (set_of bytes_cmp) c.in_order.ensures ∙ set_again (set_of bytes_cmp c.args.recorded.refs.items)) i;
      deriver = c.args.recorded.deriver;
      ca = c.args.recorded.ca;
      outputs = c.in_ok-outputs.ensures.all i;
    })
