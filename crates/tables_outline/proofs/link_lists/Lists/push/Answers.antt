use Rattle.std.proofs.Common.{ap, ◌∙◌, List, ℕ, ◌||◌, ◌&&◌, ◌==◌}
use Rattle.std.specs.List.{list_any}
use Rattle.tables_outline.specs.LinkLists.{has}
use Rattle.tables_outline.proofs.Listed.{pushed_in}
use Rattle.tables_outline.proofs.link_lists.Lists.push.Goals as goal

pub returns : goal.returns
returns c i x =
    pushed_in (λ v. v.items) c.make_room.new.lists.items c.args.number c.index_mut.result.now c.push.new.self
    c.in_ok-make_room.ensures.room c.index_mut.ensures.value c.args.listed c.in_ok-push.ensures.items i x
    ∙ ap (λ b. b || (i == c.args.number && x == c.args.listed))
    (ap (list_any (λ y. y == x)) (c.in_ok-make_room.ensures.same i)
    ∙ ap (λ (ls : List (List ℕ)). has ls i x) c.self.view_is)
