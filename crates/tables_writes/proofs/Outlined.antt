-- What the outline of a world has of its objects, and summaries that are copied.
use Rattle.std.proofs.Common.{◌≡◌, suc, List, [], ◌∷◌, map, length, Option, Some, None, is_some, option_map, Bool, true}
use Rattle.std.proofs.Common.{false, refl, sym, ap, ap₂, subst, ◌∙◌, T, IsTrue, String, Global, string_bytes}
use Rattle.std.specs.Prelude.{IsSomeAnd, MatchOption}
use Rattle.std.specs.Borrow.{Bor}
use Rattle.std.specs.declared.cmp.Ordering.{Ordering}
use Rattle.std.specs.Ordering.{is_lt}
use Rattle.std.specs.List.{zip, AllZip}
use Rattle.std.specs.FinMap as finite
use Rattle.std.specs.FinMap.Entries.{is_sorted, below_all}
use Rattle.std.proofs.lemmas.Bool.{false≢true}
use Rattle.std.proofs.lemmas.Option.{same_Some}
use Rattle.paths.specs.Root.{bytes_cmp, Set, set_of}
use Rattle.live.proofs.Order.{contains_key-set_of, same_set}
use Rattle.model.specs.World.{Path, Object, World, roots_of}
use Rattle.tables_outline.specs.Outline.{OutlineValue, Outlined, outlined, outline_of, rise}
use Rattle.tables_outline.proofs.Orders.{bytes_total, bytes_antisymmetric}
use Rattle.tables_outline.proofs.Reported.{get-reported}
use Rattle.tables_outline.proofs.Ordered.{both_T, from_both, listed_as}
use Rattle.tables_outline.specs.Rooted.{rooted}
use Rattle.tables_writes.specs.Entries.{object_view}
use Rattle.tables_writes.specs.declared.entries.Object.{Object as Found}

-- ---- entries whose values are changed

module _ {K X Y : Type 0} (R : K → K → Ordering) (f : X → Y) where
  abbrev pub with_values : List (K × X) → List (K × Y)
  with_values es = map (λ (e : K × X). let d : K × Y = (e.0, f e.1) in d) es

  below_mapped : (k : K) (es : List (K × X)) → T (below_all R k es) → T (below_all R k (with_values es))
  below_mapped k [] h = tt
  below_mapped k (e ∷ es) h =
      let parts = both_T (is_lt (R k e.0)) (below_all R k es) h in
      from_both (is_lt (R k e.0)) (below_all R k (with_values es)) parts.0 (below_mapped k es parts.1)

  pub sorted_mapped : (es : List (K × X)) → T (is_sorted R es) → T (is_sorted R (with_values es))
  sorted_mapped [] h = tt
  sorted_mapped (e ∷ es) h =
      let parts = both_T (below_all R e.0 es) (is_sorted R es) h in
      from_both (below_all R e.0 (with_values es)) (is_sorted R (with_values es)) (below_mapped e.0 es parts.0)
      (sorted_mapped es parts.1)

  pub keys_mapped : (es : List (K × X)) → map (λ (e : K × Y). e.0) (with_values es) ≡ map (λ (e : K × X). e.0) es
  keys_mapped [] = refl
  keys_mapped (e ∷ es) = ap (λ (ks : List K). e.0 ∷ ks) (keys_mapped es)

-- ---- the objects of a world and their outline

-- the entries of the objects, each outlined
pub entries_outlined : (w : World)
    → finite.entries (outline_of w).objects
    ≡ map (λ (e : Path × Object). let d : Path × Outlined = (e.0, outlined e.1) in d) (finite.entries w.objects)
entries_outlined w =
    listed_as bytes_total bytes_antisymmetric _
    (sorted_mapped bytes_cmp outlined (finite.entries w.objects) (finite.entries_sorted w.objects))

-- the same roots
pub roots_outlined : (w : World) (o : OutlineValue) → outline_of w ≡ o → roots_of (rooted o) ≡ roots_of w
roots_outlined w o is = ap (λ (x : OutlineValue). roots_of (rooted x)) (sym is)

-- an object that has this archive and this outline, or none of either
pub object_found : (w : World) (o : OutlineValue) (p : Path) (found : Option Found) → outline_of w ≡ o
    → option_map (λ (x : Found). x.summary) found ≡ finite.get o.objects p
    → option_map (λ (x : Found). x.nar) found ≡ option_map (λ (x : Object). x.nar) (finite.get w.objects p)
    → option_map object_view found ≡ finite.get w.objects p
object_found w o p found is summary nar =
    by found (finite.get w.objects p)
    (summary ∙ ap (λ (x : OutlineValue). finite.get x.objects p) (sym is)
    ∙ get-reported bytes_total bytes_antisymmetric (λ _ x. outlined x) w.objects p) nar
  where
    by : (found : Option Found) (present : Option Object)
        → option_map (λ (x : Found). x.summary) found ≡ option_map outlined present
        → option_map (λ (x : Found). x.nar) found ≡ option_map (λ (x : Object). x.nar) present
        → option_map object_view found ≡ present
    by None None s n = refl
    by None (Some x) s n = absurd (false≢true (ap is_some s))
    by (Some f) None s n = absurd (false≢true (sym (ap is_some s)))
    by (Some f) (Some x) s n =
        let same = same_Some f.summary (outlined x) s in
        ap Some (λ i. record {
          nar = same_Some f.nar x.nar n i;
          references = (same i).references;
          deriver = (same i).deriver;
          ca = (same i).ca;
          outputs = (same i).outputs;
        })

-- no object, where the outline has none
pub none_found : (w : World) (o : OutlineValue) (p : Path) → outline_of w ≡ o → None ≡ finite.get o.objects p
    → None ≡ finite.get w.objects p
none_found w o p is none =
    by (finite.get w.objects p) (none ∙ ap (λ (x : OutlineValue). finite.get x.objects p) (sym is)
    ∙ get-reported bytes_total bytes_antisymmetric (λ _ x. outlined x) w.objects p)
  where
    by : (present : Option Object) → None ≡ option_map outlined present → None ≡ present
    by None h = refl
    by (Some x) h = absurd (false≢true (ap is_some h))

-- ---- summaries that are copied

abbrev Key : Type 0
Key = Path × Unit {0}

paired : {X : Type 0} (es : List (Path × X))
    → map (λ (k : Path). let e : Key = (k, tt) in e) (map (λ (e : Path × X). e.0) es)
    ≡ map (λ (e : Path × X). let d : Key = (e.0, tt) in d) es
paired [] = refl
paired (e ∷ es) = ap (λ (l : List Key). (e.0, tt) ∷ l) (paired es)

from_T : (b : Bool) → T b → IsTrue b
from_T true h = refl
from_T false h = absurd h

-- keys rise
pub keys_ordered : {X : Type 0} (m : finite.FinMap bytes_cmp X) → IsTrue (rise (finite.keys m))
keys_ordered {X} m =
    from_T _ (subst (λ (l : List Key). T (is_sorted bytes_cmp l)) (sym (paired (finite.entries m)))
    (sorted_mapped bytes_cmp (λ (x : X). let u : Unit {0} = tt in u) (finite.entries m)
    (finite.entries_sorted m)))

-- the keys of a set make it
pub set_again : (m : Set bytes_cmp) → set_of bytes_cmp (finite.keys m) ≡ m
set_again m =
    same_set bytes_total bytes_antisymmetric (set_of bytes_cmp (finite.keys m)) m
    (λ k. contains_key-set_of bytes_total (finite.keys m) k ∙ sym (finite.contains_key-keys m k))

zipped : {X : Type 0} (es : List (Path × X))
    → zip (map (λ (e : Path × X). e.0) es) (map (λ (e : Path × X). e.1) es) ≡ es
zipped [] = refl
zipped (e ∷ es) = ap (λ l. e ∷ l) (zipped es)

lengths : {X : Type 0} (es : List (Path × X))
    → length (map (λ (e : Path × X). e.1) es) ≡ length (map (λ (e : Path × X). e.0) es)
lengths [] = refl
lengths (e ∷ es) = ap (λ n. suc n) (lengths es)

-- the keys and the values of a map are as many, and make it
pub values_length : {X : Type 0} (m : finite.FinMap bytes_cmp X) → length (finite.values m) ≡ length (finite.keys m)
values_length m = lengths (finite.entries m)

pub map_again : {X : Type 0} (m : finite.FinMap bytes_cmp X)
    → finite.from_entries (zip (finite.keys m) (finite.values m)) ≡ m
map_again m =
    ap finite.from_entries (zipped (finite.entries m))
    ∙ finite.same_map bytes_total bytes_antisymmetric _ _
    (λ q. finite.get-from_entries bytes_total (finite.entries m) q ∙ sym (finite.get-entries m q))

-- a path that is cloned, if there is one
pub cloned_is : (o : Option (Bor Path)) (r : Option Path)
    → MatchOption o (r ≡ None) (λ (x : Bor Path). IsSomeAnd r (λ y. y ≡ x.now))
    → r ≡ option_map (λ (x : Bor Path). x.now) o
cloned_is None r h = h
cloned_is (Some x) None h = absurd h
cloned_is (Some x) (Some y) h = ap Some h

-- texts that are copied have the same bytes
pub same_texts : (xs ys : List (String Global)) → AllZip (λ s t. string_bytes t ≡ string_bytes s) xs ys
    → map string_bytes ys ≡ map string_bytes xs
same_texts [] [] h = refl
same_texts [] (y ∷ ys) h = absurd h
same_texts (x ∷ xs) [] h = absurd h
same_texts (x ∷ xs) (y ∷ ys) h = ap₂ (λ (b : Path) (bs : List Path). b ∷ bs) h.0 (same_texts xs ys h.1)
