use Rattle.std.proofs.Common.{◌≡◌, ◌++◌, map, Option, Some, None, Bor, refl, ap, ◌∙◌}
use Rattle.std.specs.Prelude.{option_map}
use Rattle.std.specs.Option.{option_copied}
use Rattle.live.specs.Arguments.{row_view}
use Rattle.store_reach.specs.Linked.{row_in}
use Rattle.tables_outline.proofs.Loops.{moved, ended}
use Rattle.store_reach.proofs.graph.rows.Goals as goal

copied : {X : Type 0} (r : Option (Bor X)) → option_copied r ≡ option_map (λ (p : Bor X). p.now) r
copied None = refl
copied (Some p) = refl

pub loop-path-preserved : goal.loop-path-preserved
loop-path-preserved c =
    ap (λ xs. map row_view xs ++ map row_in c.next.new.self) c.in_ok-push.ensures.items
    ∙ moved row_view row_in c.loop-path.rows.items _ (c.in-Some.path.now, c.in-Some.object.now)
    c.loop-path.path-iterator c.next.new.self
    (map row_in c.into_iter-path-iterator.result)
    (λ i. (
      c.in-Some.path.now,
      record {
        references = c.references.ensures i;
        outputs = c.outputs.ensures i;
        deriver = (copied c.deriver.result ∙ c.deriver.ensures) i;
      },
    ))
    c.in-Some.ensures.steps c.loop-path.invariant

pub returns : goal.returns
returns c =
    ended row_view row_in c.loop-path.rows.items c.loop-path.path-iterator (map row_in c.into_iter-path-iterator.result)
    c.in-None.ensures.steps.0 c.loop-path.invariant
    ∙ ap (map row_in) (c.into_iter-path-iterator.ensures.into_iter_gives ∙ c.iter-path-items.ensures.rest
    ∙ c.objects.ensures)
