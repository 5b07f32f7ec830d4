-- What a deletion takes, exactly.
use Rattle.std.proofs.Common.{List, not, cond, None, refl, sym, ap, ◌∙◌, subst}
use Rattle.std.specs.Prelude.{is_some}
use Rattle.std.specs.FinMap as finite
use Rattle.std.proofs.lemmas.Bool.{not_from_false, false_from_ne_true}
use Rattle.live.proofs.Live.{closure_decided}
use Rattle.model.specs.World.{Path, World}
use Rattle.model.specs.Reply.{done, denied, refused, failed}
use Rattle.model.specs.Liveness.{graph_of, is_deleted_with}
use Rattle.model.specs.Effects.{keeping}
use Rattle.laws.specs.Changes.{DeletesExactly, Deletes}
use Rattle.model.proofs.Worlds.{get-keeping, kept_if}

exactly : (w : World) (named : List Path) → DeletesExactly named w (keeping w (λ p. not (is_deleted_with w named p)))
exactly w named = record {
  deleted = λ p r.
      ap is_some (get-keeping w.objects (λ x. not (is_deleted_with w named x)) p)
      ∙ ap (λ b. is_some (cond (not b) (finite.get w.objects p) None)) ((closure_decided (graph_of w) named p).1 r);
  kept = λ p other. kept_if w.objects (λ x. not (is_deleted_with w named x)) p
      (not_from_false (is_deleted_with w named p)
      (false_from_ne_true (is_deleted_with w named p) (λ t. other ((closure_decided (graph_of w) named p).0 t))));
  roots = record { permanent = refl; user_roots = refl; profiles = refl; runtime = refl; temporary = refl };
}

pub deletes : Deletes
deletes s w c named ignores (done a) new h d =
    subst (λ (u : World). DeletesExactly named w u) (sym h.3) (exactly w named)
deletes s w c named ignores (denied rule root) new h d = absurd d
deletes s w c named ignores (refused t) new h d = absurd d
deletes s w c named ignores (failed f) new h d = absurd d
