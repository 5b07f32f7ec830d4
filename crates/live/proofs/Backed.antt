-- The walk against the edges at the values of the code.
use Rattle.std.proofs.Common.{◌≡◌, ℕ, ◌+◌, ◌<◌, List, length, refl, sym, ap, ◌∙◌, subst}
use Rattle.std.specs.Prelude.{All, count_by, nat_le}
use Rattle.live.specs.Graph.{Keep}
use Rattle.live.specs.Places.{AllInside, Entries}
use Rattle.live.specs.Marks.{Frontier, IsDequeued, NoneWaits, all_reached}
use Rattle.live.specs.Backward.{IsBackward, IsTurned, Reversed, sources_at}
use Rattle.live.proofs.OneRoot.{waiting_count}
use Rattle.live.proofs.Backs.{IsBack, are_into, finish, smaller, sources_inside, step_taken}

module _ (keep : Keep) (rows : List Entries) (inside : AllInside rows) (named : List ℕ)
    (aims : All (λ t. t < length rows) named) where
  pub placed : (f h : Frontier) (place : ℕ) → IsBack keep rows named f → IsDequeued f.waiting h.waiting place
      → place < length rows
  placed f h place w works = (w.waits place works.waited).0

  -- the sources as they are borrowed
  module _ (into : Reversed) (turned : IsTurned keep rows (length rows) into) (f h : Frontier) (place : ℕ)
      (w : IsBack keep rows named f)
      (firsts : h.first ≡ f.first) (works : IsDequeued f.waiting h.waiting place) (xs : List ℕ)
      (same : xs ≡ sources_at into place) where
    pub inside_at : All (λ t. t < length h.first) xs
    inside_at =
        subst (All (λ t. t < length h.first)) (sym same)
        (sources_inside keep rows inside named aims place (sources_at into place) (are_into keep rows into turned place)
        f h (all_reached 1 0 h (sources_at into place)) w firsts works refl)

    pub consumed_at : (g : Frontier) → g ≡ all_reached 1 0 h xs → IsBack keep rows named g
    consumed_at g is =
        step_taken keep rows inside named aims place (sources_at into place) (are_into keep rows into turned place) f h
        g w firsts works (is ∙ ap (all_reached 1 0 h) same)

    pub smaller_at : (g : Frontier) → g ≡ all_reached 1 0 h xs
        → count_by (λ m. nat_le 1 m) g.first + waiting_count g.waiting
        < count_by (λ m. nat_le 1 m) f.first + waiting_count f.waiting
    smaller_at g is =
        smaller keep rows inside named aims place (sources_at into place) (are_into keep rows into turned place) f h g w
        firsts works (is ∙ ap (all_reached 1 0 h) same)

  pub finish_at : (f h : Frontier) (marks : List ℕ) → IsBack keep rows named f → h.waiting ≡ f.waiting
      → NoneWaits h.waiting → marks ≡ f.first → IsBackward keep rows named marks
  finish_at f h marks w same none is = finish keep rows inside named aims f marks (subst NoneWaits same none) w is
