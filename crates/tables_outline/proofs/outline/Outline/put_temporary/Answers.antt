use Rattle.std.proofs.Common.{Bool, true, false, not, refl, ◌≡◌, ap, ◌∙◌}
use Rattle.std.specs.FinMap as finite
use Rattle.model.specs.World.{temporary_cmp}
use Rattle.tables_outline.specs.Maps.{seen_set, temporary_bytes}
use Rattle.tables_outline.specs.View.{outline_view}
use Rattle.tables_outline.specs.Outline.{OutlineValue}
use Rattle.tables_outline.proofs.SessionTrees.{has_kept, put_kept}
use Rattle.tables_outline.proofs.outline.Outline.put_temporary.Goals as goal

again : (b : Bool) → not (not b) ≡ b
again true = refl
again false = refl

pub returns : goal.returns
returns c = record {
  done =
      ap (λ m. record (outline_view c.self.inside) { temporary = m })
      (ap (seen_set temporary_cmp temporary_bytes) c.in_ok-is_new.ensures.keys
      ∙ put_kept c.self.inside.temporary.keys c.args.kept)
      ∙ ap (λ (o : OutlineValue). record o { temporary = finite.insert o.temporary (temporary_bytes c.args.kept) tt })
      c.self.view_is;
  had =
      ap not c.in_ok-is_new.ensures.added ∙ again _ ∙ has_kept c.self.inside.temporary.keys c.args.kept
      ∙ ap (λ (o : OutlineValue). finite.contains_key o.temporary (temporary_bytes c.args.kept)) c.self.view_is;
  failed = tt;
}
