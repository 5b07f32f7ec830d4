use Rattle.std.proofs.Common.{List, length, string_bytes, sym, ap, ap₂, subst, ◌∙◌, IsTrue}
use Rattle.std.specs.List.{zip}
use Rattle.std.specs.FinMap as finite
use Rattle.paths.specs.Root.{bytes_cmp, set_of}
use Rattle.model.specs.World.{Path}
use Rattle.tables_outline.specs.Outline.{rise}
use Rattle.tables_outline.proofs.Ordered.{mapped_length}
use Rattle.tables_writes.proofs.Outlined.{cloned_is, keys_ordered, set_again, values_length, map_again, same_texts}
use Rattle.tables_writes.proofs.entries.copied.Goals as goal

pub new-requires-clause-references : goal.new-requires-clause-references
new-requires-clause-references c =
    subst (λ (l : List Path). IsTrue (rise l))
    (sym (c.in_ok-references.ensures.items_if_clones_equal (λ x y h. h) ∙ c.references.ensures))
    (keys_ordered c.args.object.now.references)

pub new-requires-clause-names : goal.new-requires-clause-names
new-requires-clause-names c =
    subst (λ (l : List Path). IsTrue (rise l))
    (sym (same_texts c.names.result.now c.in_ok-names.names.items c.in_ok-names.ensures.ok ∙ c.names.ensures))
    (keys_ordered c.args.object.now.outputs)

pub new-requires-clause-paths : goal.new-requires-clause-paths
new-requires-clause-paths c =
    let names = same_texts c.names.result.now c.in_ok-names.names.items c.in_ok-names.ensures.ok ∙ c.names.ensures in
    ap length (c.in_ok-paths.ensures.items_if_clones_equal (λ x y h. h) ∙ c.outputs.ensures)
    ∙ values_length c.args.object.now.outputs ∙ ap length (sym names)
    ∙ mapped_length string_bytes c.in_ok-names.names.items

pub returns : goal.returns
returns c =
    let references = c.in_ok-references.ensures.items_if_clones_equal (λ x y h. h) ∙ c.references.ensures in
    let names = same_texts c.names.result.now c.in_ok-names.names.items c.in_ok-names.ensures.ok ∙ c.names.ensures in
    let outputs = c.in_ok-paths.ensures.items_if_clones_equal (λ x y h. h) ∙ c.outputs.ensures in
    c.in_ok-copy.ensures ∙ (λ i. record {
      size = c.size.ensures i;
      hash = c.hash.ensures i;
      references = (ap (set_of bytes_cmp) references ∙ set_again c.args.object.now.references) i;
      deriver = (cloned_is c.deriver.result c.in_ok-deriver.deriver c.in_ok-deriver.ensures ∙ c.deriver.ensures) i;
      ca = c.ca.ensures i;
      outputs =
          (ap₂ (λ (ns ps : List Path). finite.from_entries (zip ns ps)) names outputs
          ∙ map_again c.args.object.now.outputs) i;
    })
