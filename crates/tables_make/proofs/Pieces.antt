-- Pieces that are put among others.
use Rattle.std.proofs.Common.{◌≡◌, ℕ, List, [], ◌∷◌, Bool, true, false, ◌&&◌, cond, Some, None, Option, refl, ap, ◌∙◌}
use Rattle.std.specs.Prelude.{ℤ}
use Rattle.std.specs.declared.cmp.Ordering.{Ordering}
use Rattle.std.specs.declared.cmp.Ordering.TheVariants.{Less, Equal, Greater}
use Rattle.std.specs.Ordering.{eq_by_cmp, is_eq, is_lt, int_cmp, ordering_then}
use Rattle.std.specs.Option.{option_or}
use Rattle.std.specs.Cmp.{Equal-is}
use Rattle.std.specs.FinMap as finite
use Rattle.std.specs.FinMap.Entries.{find as find_entry, is_sorted, below_all}
use Rattle.paths.specs.Root.{bytes_cmp}
use Rattle.tables_sql.specs.Contents.{numbered_cmp}
use Rattle.tables_sql.proofs.Orders.{numbered_total}
use Rattle.model.specs.World.{Path}
use Rattle.tables_make.specs.Cutting.{put_pieces}
use lib.Dec.{T}

both_T : (a b : Bool) → T (a && b) → T a × T b
both_T true b h = (tt, h)
both_T false b h = absurd h

tied_both : (r s : Ordering) → is_eq (ordering_then r s) ≡ (is_eq r && is_eq s)
tied_both Less s = refl
tied_both Equal s = refl
tied_both Greater s = refl

less_is_distinct : (r : Ordering) → T (is_lt r) → is_eq r ≡ false
less_is_distinct Less h = refl
less_is_distinct Equal h = absurd h
less_is_distinct Greater h = absurd h

-- a number below all isn't found
none_below : (n : ℤ) (es : List (ℤ × List ℕ)) → T (below_all int_cmp n es) → find_entry int_cmp n es ≡ None
none_below n [] h = refl
none_below n (e ∷ es) h =
    let parts = both_T (is_lt (int_cmp n e.0)) (below_all int_cmp n es) h in
    ap (λ b. cond b (Some e.1) (find_entry int_cmp n es)) (less_is_distinct (int_cmp n e.0) parts.0)
    ∙ none_below n es parts.1

-- one piece, before those that follow
joins : (q : Path) (n : ℤ) (e : ℤ × List ℕ) (es : List (ℤ × List ℕ)) (a b : Bool) → eq_by_cmp int_cmp n e.0 ≡ b
    → T (below_all int_cmp e.0 es) → (g : Option (List ℕ))
    → cond a (option_or (find_entry int_cmp n es) (cond (a && b) (Some e.1) g)) (cond (a && b) (Some e.1) g)
    ≡ cond a (option_or (cond b (Some e.1) (find_entry int_cmp n es)) g) g
joins q n e es true true is below g =
    let same : n ≡ e.0 = finite.int_cmp-IsAntisymmetric n e.0 ((Equal-is (int_cmp n e.0)).0 is) in
    ap (λ o. option_or o (Some e.1)) (ap (λ k. find_entry int_cmp k es) same ∙ none_below e.0 es below)
joins q n e es true false is below g = refl
joins q n e es false b is below g = refl

none_put : (a : Bool) (g : Option (List ℕ)) → g ≡ cond a (option_or None g) g
none_put true g = refl
none_put false g = refl

-- the pieces of a path are those that were put, before those that there were
pub get-put_pieces : (p q : Path) (n : ℤ) (es : List (ℤ × List ℕ)) (m : finite.FinMap numbered_cmp (List ℕ))
    → T (is_sorted int_cmp es)
    → finite.get (put_pieces p es m) (q, n)
    ≡ cond (eq_by_cmp bytes_cmp q p) (option_or (find_entry int_cmp n es) (finite.get m (q, n)))
    (finite.get m (q, n))
get-put_pieces p q n [] m sorted = none_put (eq_by_cmp bytes_cmp q p) (finite.get m (q, n))
get-put_pieces p q n (e ∷ es) m sorted =
    let parts = both_T (below_all int_cmp e.0 es) (is_sorted int_cmp es) sorted in
    let a : Bool = eq_by_cmp bytes_cmp q p in
    let b : Bool = eq_by_cmp int_cmp n e.0 in
    let g : Option (List ℕ) = finite.get m (q, n) in
    let put : finite.get (finite.insert m (p, e.0) e.1) (q, n) ≡ cond (a && b) (Some e.1) g =
    finite.get-insert numbered_total m (p, e.0) e.1 (q, n)
    ∙ ap (λ t. cond t (Some e.1) g) (tied_both (bytes_cmp q p) (int_cmp n e.0)) in
    get-put_pieces p q n es (finite.insert m (p, e.0) e.1) parts.1
    ∙ ap (λ o. cond a (option_or (find_entry int_cmp n es) o) o) put
    ∙ joins q n e es a b refl parts.0 g
