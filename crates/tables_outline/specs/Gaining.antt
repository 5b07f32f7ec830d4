-- Sets that gain items.
use Rattle.std.specs.Prelude.{◌≡◌, ◌||◌, Bool, List}
use Rattle.std.specs.List.{list_any}
use Rattle.std.specs.Ordering.{eq_by_cmp}
use Rattle.std.specs.FinMap as finite
use Rattle.std.specs.declared.cmp.Ordering.{Ordering}
use Rattle.paths.specs.Root.{Set}

-- among the items there is one that ties with this
abbrev pub has_tied : {L : Type 0} (R : L → L → Ordering) → L → List L → Bool
has_tied R q items = list_any (eq_by_cmp R q) items

-- a set has what it had, and these
abbrev pub Gains : {L : Type 0} (R : L → L → Ordering) → Set R → List L → Set R → Type 0
Gains {L} R old items new = (q : L) → finite.contains_key new q ≡ (finite.contains_key old q || has_tied R q items)
