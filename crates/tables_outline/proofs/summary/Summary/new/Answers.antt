use Rattle.std.proofs.Common.{◌≡◌, length, string_bytes, sym, ap, subst, ◌∙◌, IsTrue}
use Rattle.std.specs.List.{zip}
use Rattle.std.specs.FinMap as finite
use Rattle.paths.specs.Root.{bytes_cmp, set_of}
use Rattle.tables_outline.specs.Details.{DetailsValue}
use Rattle.tables_outline.specs.Outline.{Outlined, rise}
use Rattle.tables_outline.proofs.Ordered.{mapped_length}
use Rattle.tables_outline.proofs.summary.Summary.new.Goals as goal

pub invariant_of-result : goal.invariant_of-result
invariant_of-result c = record {
  references = c.requires.references;
  names = subst (λ (d : DetailsValue). IsTrue (rise d.names)) (sym c.in_ok-details.ensures) c.requires.names;
  paths =
      subst (λ (d : DetailsValue). length d.outputs ≡ length d.names) (sym c.in_ok-details.ensures)
      (c.requires.paths ∙ sym (mapped_length string_bytes c.args.details.outputs.names.items));
}

pub returns : goal.returns
returns c =
    ap (λ (d : DetailsValue). let o : Outlined = record {
      size = c.args.size;
      hash = c.args.hash;
      references = set_of bytes_cmp c.args.references.items;
      deriver = d.deriver;
      ca = d.ca;
      outputs = finite.from_entries (zip d.names d.outputs);
    } in o) c.in_ok-details.ensures
