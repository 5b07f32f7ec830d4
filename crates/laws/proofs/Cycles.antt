-- A group of more than one path is the first dead path left in path order, and all left that reach it by references.
use Rattle.std.proofs.Common.{◌≡◌, ◌<◌, List, [], ◌∷◌, length, Bool, not, ◌&&◌, Some, None, Option, refl, ap}
use Rattle.std.proofs.Common.{arith, subst}
use Rattle.std.specs.Prelude.{is_some}
use Rattle.std.specs.List.{filter, find}
use Rattle.std.specs.List.Sorted.{IsStrictlySortedBy}
use Rattle.std.specs.Option.{option_map, option_or}
use Rattle.std.proofs.lemmas.Bool.{false≢true}
use Rattle.paths.specs.Root.{bytes_cmp}
use Rattle.live.specs.Graph.{Path, Graph, references_only}
use Rattle.live.specs.Reach.{reaches}
use Rattle.live.specs.Limited.{is_referred_to}
use Rattle.live.proofs.Groups.{in_filter, filter_in}
use Rattle.live.proofs.Members.{found}
use Rattle.laws.specs.Cycles.{IsCycle, CyclesAreDeletedByTheLeast}
use Rattle.laws.proofs.Sources.{none_less}

module _ (g : Graph) (dead : Path → Bool) (left group : List Path) (rise : IsStrictlySortedBy bytes_cmp left)
    (many : 1 < length group) where
  by : (alone first : Option Path) → find dead left ≡ first
      → option_or (option_map (λ (p : Path). p ∷ []) alone)
      (option_map (λ (p : Path). filter (λ q. reaches references_only g q p) left) first) ≡ Some group
      → IsCycle g dead left group
  by (Some p) first f e =
      (let is : (p ∷ []) ≡ group = cc in let one = ap length is in absurd (omega (arith, one, many)))
  by None None f e = absurd (false≢true (ap is_some e))
  by None (Some p) f e =
      let is : filter (λ q. reaches references_only g q p) left ≡ group = cc in
      let here = found dead left p f in
      subst (λ (xs : List Path). IsCycle g dead left xs) is (record {
        path = p;
        present = here.0;
        is_dead = here.1;
        least = λ q c t less. none_less dead left p q rise f c t less;
        members =
            λ q. (
              λ c. in_filter (λ q. reaches references_only g q p) left q c,
              λ h. filter_in (λ q. reaches references_only g q p) left q h.0 h.1,
            );
      })

pub cycles_are_deleted_by_the_least : CyclesAreDeletedByTheLeast
cycles_are_deleted_by_the_least g dead left group rise e many =
    by g dead left group rise many (find (λ p. dead p && not (is_referred_to g left p)) left) (find dead left) refl e
