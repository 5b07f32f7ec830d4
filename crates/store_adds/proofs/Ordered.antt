-- References in their order.
use Rattle.std.proofs.Common.{◌≡◌, List, [], ◌∷◌, map, Bool, true, false, refl, sym, ap, subst, ◌∙◌, T, IsTrue}
use Rattle.std.specs.Cmp.Lexicographic.{nat_list_cmp_total}
use Rattle.std.specs.FinMap as finite
use Rattle.std.specs.FinMap.Entries.{is_sorted}
use Rattle.paths.specs.Root.{bytes_cmp, Set, set_of}
use Rattle.live.proofs.Order.{contains_key-set_of, same_set}
use Rattle.model.proofs.MapMembers.{bytes_antisymmetric}
use Rattle.model.specs.World.{Path}
use Rattle.tables_outline.specs.Outline.{rise}

abbrev Key : Type 0
Key = Path × Unit {0}

keys_again : (es : List Key) → map (λ (k : Path). let e : Key = (k, tt) in e) (map (λ (e : Key). e.0) es) ≡ es
keys_again [] = refl
keys_again (e ∷ es) = ap (λ (l : List Key). (e.0, tt) ∷ l) (keys_again es)

from_T : (b : Bool) → T b → IsTrue b
from_T true h = refl
from_T false h = absurd h

-- the keys of a set rise
pub keys_of_set_rise : (m : Set bytes_cmp) → IsTrue (rise (finite.keys m))
keys_of_set_rise m =
    from_T _ (subst (λ (l : List Key). T (is_sorted bytes_cmp l)) (sym (keys_again (finite.entries m)))
    (finite.entries_sorted m))

-- and make it
pub set_again : (m : Set bytes_cmp) → set_of bytes_cmp (finite.keys m) ≡ m
set_again m =
    same_set nat_list_cmp_total bytes_antisymmetric (set_of bytes_cmp (finite.keys m)) m
    (λ k. contains_key-set_of nat_list_cmp_total (finite.keys m) k ∙ sym (finite.contains_key-keys m k))
