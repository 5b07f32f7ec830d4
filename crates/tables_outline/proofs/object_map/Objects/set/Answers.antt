use Rattle.std.proofs.Common.{ℕ, List, None, sym, subst, map-id, ◌∙◌}
use Rattle.std.specs.BTreeMap.{IsFromIterResult}
use Rattle.std.specs.FinMap as finite
use Rattle.std.proofs.lemmas.Iterator.{items_from_drains}
use Rattle.std.proofs.lemmas.Iterator.Adapters.{YieldsList-from_vec}
use Rattle.paths.specs.Root.{bytes_cmp}
use Rattle.tables_outline.specs.Maps.{put_all}
use Rattle.tables_outline.specs.Outline.{Outlined}
use Rattle.tables_outline.proofs.Orders.{bytes_total, bytes_antisymmetric}
use Rattle.tables_outline.proofs.Puts.{get-all, option_same}
use Rattle.tables_outline.proofs.Trees.{seen_as}
use Rattle.tables_outline.proofs.object_map.Objects.set.Goals as goal

pub returns : goal.returns
returns c =
    let items = c.args.objects.items in
    let all = put_all items finite.empty in
    let ran = c.in_ok-made.ensures.ran in
    let road = YieldsList-from_vec items c.into_iter.ensures.rest (c.into_iter.ensures.len ∙ c.args.objects.ok.0) in
    let made =
    subst (λ xs. IsFromIterResult bytes_cmp xs c.in_ok-made.made)
    (sym (map-id ran.0) ∙ items_from_drains ran.0 ran.1 road) ran.2 in
    record {
      done =
          seen_as bytes_cmp (λ (p : List ℕ). p) (λ (o : Outlined). o) bytes_total bytes_antisymmetric
          c.in_ok-made.made.entries all (λ q.
          option_same _ ∙ made.0 q ∙ sym
          (get-all bytes_total bytes_antisymmetric items finite.empty (λ _. None) q
          (finite.get-empty bytes_cmp q)));
      failed = tt;
    }
