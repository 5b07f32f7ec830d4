use Rattle.std.proofs.Common.{◌≡◌, ℕ, ◌<◌, ◌-◌, ◌&&◌, ◌==◌, take, length}
use Rattle.std.specs.Prelude.{not, sum_by}
use Rattle.std.specs.List.{list_any, slice_index}
use Rattle.live.specs.Remainder.{IsRemaining, is_in, nothing_owed}
use Rattle.live.proofs.remainder.Remaining.remove_all.Given as goal

abbrev pub invariant-loop-place : goal.invariant-loop-place
invariant-loop-place l =
    IsRemaining l.graph nothing_owed l.self × (l.self.dead ≡ l.fn.self.dead)
    × ((i : ℕ) → i < length l.graph
    → is_in l.self.left i ≡ (is_in l.fn.self.left i && not (list_any (λ j. j == i) (take l.place-index l.group))))
    × (l.wanted ≡ l.fn.wanted - sum_by (slice_index l.sizes) (take l.place-index l.group))
