use Rattle.std.proofs.Common.{ℕ, List, map, sym, ap, ◌∙◌, append-nil, ◌++◌}
use Rattle.tables_outline.specs.Outline.{Outlined}
use Rattle.store.proofs.records.all_paths.Goals as goal

pub returns : goal.returns
returns c =
    sym (append-nil c.loop-path.paths.items)
    ∙ ap (λ (l : List (List ℕ)). c.loop-path.paths.items ++ l) (sym c.in-None.ensures.steps.0)
    ∙ c.loop-path.invariant
    ∙ c.into_iter-path-iterator.ensures.into_iter_gives ∙ c.keys-path-items.ensures.rest
    ∙ ap (map (λ (e : List ℕ × Outlined). e.0)) c.objects-objects.ensures
