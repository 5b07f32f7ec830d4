use Rattle.std.proofs.Common.{ap, map, ◌∷◌, [], ◌∙◌, List, ℕ, arith}
use Rattle.std.proofs.lemmas.Grind.{common_steps}
use Rattle.std.proofs.lemmas.List.{map-append}
use Rattle.tables_outline.specs.LinkLists.{list_at}
use Rattle.tables_outline.proofs.Listed.{room_push}
use Rattle.tables_outline.proofs.link_lists.make_room.Goals as goal

pub loop-count-preserved : goal.loop-count-preserved
loop-count-preserved c = record {
  count = grind (arith, common_steps);
  same = λ i.
      ap (λ vs. list_at (map (λ v. v.items) vs) i) c.in_ok-push.ensures.items
      ∙ ap (λ (ls : List (List ℕ)). list_at ls i)
      (map-append (λ v. v.items) c.loop-count.lists.items (c.new.result ∷ []))
      ∙ room_push (map (λ v. v.items) c.loop-count.lists.items) c.new.result.items c.new.ensures.items i
      ∙ c.loop-count.invariant.same i;
}
