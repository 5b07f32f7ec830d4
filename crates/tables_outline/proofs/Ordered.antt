-- Lists in order, and the sets and maps that they make.
use Rattle.std.proofs.Common.{◌≡◌, suc, List, [], ◌∷◌, map, length, Bool, true, false, ◌&&◌, refl, sym, ap, subst, ◌∙◌}
use Rattle.std.proofs.Common.{T, IsTrue}
use Rattle.std.specs.declared.cmp.Ordering.{Ordering}
use Rattle.std.specs.Ordering.{is_lt}
use Rattle.std.specs.Cmp.{IsTotalOrder}
use Rattle.std.specs.List.{zip}
use Rattle.std.specs.FinMap as finite
use Rattle.std.specs.FinMap.Entries.{is_sorted, below_all}
use Rattle.std.proofs.lemmas.Slice.Zip.{firsts-zip, seconds-zip}
use Rattle.paths.specs.Root.{bytes_cmp, set_of}
use Rattle.model.specs.World.{Path}
use Rattle.tables_outline.specs.Outline.{rise}
use Rattle.tables_outline.proofs.Orders.{bytes_total, bytes_antisymmetric}

pub from_true : (b : Bool) → IsTrue b → T b
from_true b h = subst T (sym h) tt

pub both_T : (a b : Bool) → T (a && b) → T a × T b
both_T true b h = (tt, h)
both_T false b h = absurd h

pub from_both : (a b : Bool) → T a → T b → T (a && b)
from_both true b p q = q
from_both false b p q = absurd p

-- entries in order are what their map lists
pub listed_as : {K X : Type 0} {R : K → K → Ordering} → IsTotalOrder R → finite.IsAntisymmetric R → (es : List (K × X))
    → T (is_sorted R es) → finite.entries (finite.from_entries {R = R} es) ≡ es
listed_as {R = R} o same es h =
    ap finite.entries (finite.same_map o same (finite.from_entries es) (finite.from_sorted {R = R} es)
    (λ q. finite.get-from_entries o es q ∙ sym (finite.get-from_sorted R es q h)))
    ∙ finite.entries-from_sorted R es h

firsts : (items : List Path) → map (λ (e : Path × Unit {0}). e.0)
    (map (λ (k : Path). let e : Path × Unit {0} = (k, tt) in e) items) ≡ items
firsts [] = refl
firsts (k ∷ ks) = ap (λ (l : List Path). k ∷ l) (firsts ks)

-- items in order are what their set lists
pub keys_rise : (items : List Path) → IsTrue (rise items) → finite.keys (set_of bytes_cmp items) ≡ items
keys_rise items h =
    ap (map (λ (e : Path × Unit {0}). e.0)) (listed_as bytes_total bytes_antisymmetric _ (from_true _ h)) ∙ firsts items

below_zip : (x : Path) (names outputs : List Path)
    → T (below_all bytes_cmp x (map (λ (k : Path). let e : Path × Unit {0} = (k, tt) in e) names))
    → T (below_all bytes_cmp x (zip names outputs))
below_zip x [] outputs h = tt
below_zip x (n ∷ ns) [] h = tt
below_zip x (n ∷ ns) (p ∷ ps) h =
    let parts =
    both_T (is_lt (bytes_cmp x n))
    (below_all bytes_cmp x (map (λ (k : Path). let e : Path × Unit {0} = (k, tt) in e) ns)) h in
    from_both (is_lt (bytes_cmp x n)) (below_all bytes_cmp x (zip ns ps)) parts.0 (below_zip x ns ps parts.1)

zip_sorted : (names outputs : List Path)
    → T (is_sorted bytes_cmp (map (λ (k : Path). let e : Path × Unit {0} = (k, tt) in e) names))
    → T (is_sorted bytes_cmp (zip names outputs))
zip_sorted [] outputs h = tt
zip_sorted (n ∷ ns) [] h = tt
zip_sorted (n ∷ ns) (p ∷ ps) h =
    let parts =
    both_T (below_all bytes_cmp n (map (λ (k : Path). let e : Path × Unit {0} = (k, tt) in e) ns))
    (is_sorted bytes_cmp (map (λ (k : Path). let e : Path × Unit {0} = (k, tt) in e) ns)) h in
    from_both (below_all bytes_cmp n (zip ns ps)) (is_sorted bytes_cmp (zip ns ps)) (below_zip n ns ps parts.0)
    (zip_sorted ns ps parts.1)

-- names in order, each with a path
pub outputs_listed : (names outputs : List Path) → IsTrue (rise names)
    → finite.entries (finite.from_entries {R = bytes_cmp} (zip names outputs)) ≡ zip names outputs
outputs_listed names outputs h =
    listed_as bytes_total bytes_antisymmetric (zip names outputs) (zip_sorted names outputs (from_true _ h))

pub names_listed : (names outputs : List Path) → IsTrue (rise names) → length outputs ≡ length names
    → finite.keys (finite.from_entries {R = bytes_cmp} (zip names outputs)) ≡ names
names_listed names outputs h n =
    ap (map (λ (e : Path × Path). e.0)) (outputs_listed names outputs h) ∙ firsts-zip names outputs n

pub paths_listed : (names outputs : List Path) → IsTrue (rise names) → length outputs ≡ length names
    → finite.values (finite.from_entries {R = bytes_cmp} (zip names outputs)) ≡ outputs
paths_listed names outputs h n =
    ap (map (λ (e : Path × Path). e.1)) (outputs_listed names outputs h) ∙ seconds-zip names outputs n

pub mapped_length : {A B : Type 0} (f : A → B) (xs : List A) → length (map f xs) ≡ length xs
mapped_length f [] = refl
mapped_length f (x ∷ xs) = ap suc (mapped_length f xs)
