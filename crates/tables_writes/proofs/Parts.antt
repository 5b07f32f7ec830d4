-- What maps of rows say of one path.
use Rattle.std.proofs.Common.{◌≡◌, ℕ, List, [], ◌∷◌, Bool, true, false, ◌&&◌, ◌||◌, not, cond, Some, None, Option, refl}
use Rattle.std.proofs.Common.{sym, ap, ◌∙◌, T}
use Rattle.std.specs.declared.cmp.Ordering.{Ordering}
use Rattle.std.specs.declared.cmp.Ordering.TheVariants.{Less, Equal, Greater}
use Rattle.std.specs.Prelude.{ℤ}
use Rattle.std.specs.Cmp.{IsTotalOrder}
use Rattle.std.specs.Ordering.{eq_by_cmp, is_eq, is_lt, int_cmp, ordering_then}
use Rattle.std.specs.List.{list_any}
use Rattle.std.specs.FinMap as finite
use Rattle.std.specs.FinMap.Entries.{find as find_entry, is_sorted, below_all}
use Rattle.paths.specs.Root.{bytes_cmp}
use Rattle.tables_sql.specs.Contents.{PairSet, pair_cmp, numbered_cmp}
use Rattle.tables_sql.proofs.Orders.{pair_total, numbered_total}
use Rattle.model.specs.World.{Path}
use Rattle.tables_writes.specs.Rewritten.{put_references, put_part, put_outputs, put_pieces}
use Rattle.tables_outline.proofs.Orders.{bytes_antisymmetric}
use Rattle.tables_outline.proofs.Puts.{tied_is}
use Rattle.tables_writes.proofs.Free.{both_T, lesser}

abbrev pub same : List ℕ → List ℕ → Bool
same = eq_by_cmp bytes_cmp

pub both_tied : (r s : Ordering) → is_eq (ordering_then r s) ≡ (is_eq r && is_eq s)
both_tied Less s = refl
both_tied Equal s = refl
both_tied Greater s = refl

pair_tied : (p r : List ℕ) (k : List ℕ × List ℕ) → eq_by_cmp pair_cmp (p, r) k ≡ (same p k.0 && same r k.1)
pair_tied p r k = both_tied (bytes_cmp p k.0) (bytes_cmp r k.1)

-- ---- rows that are put

seen_by : (b r a : Bool) (g : Option (Unit {0}))
    → cond (b && a) (Some tt) (cond (b && r) (Some tt) g) ≡ cond (b && (r || a)) (Some tt) g
seen_by true true true g = refl
seen_by true true false g = refl
seen_by true false true g = refl
seen_by true false false g = refl
seen_by false r a g = refl

none_by : (b : Bool) (g : Option (Unit {0})) → g ≡ cond (b && false) (Some tt) g
none_by true g = refl
none_by false g = refl

pub get-put_references : (p : Path) (rs : List Path) (m : PairSet) (q r : Path)
    → finite.get (put_references p rs m) (q, r)
    ≡ cond (same q p && list_any (same r) rs) (Some tt) (finite.get m (q, r))
get-put_references p [] m q r = none_by (same q p) (finite.get m (q, r))
get-put_references p (x ∷ rs) m q r =
    get-put_references p rs (finite.insert m (p, x) tt) q r
    ∙ ap (cond (same q p && list_any (same r) rs) (Some tt))
    (finite.get-insert pair_total m (p, x) tt (q, r)
    ∙ ap (λ b. cond b (Some tt) (finite.get m (q, r))) (pair_tied q r (p, x)))
    ∙ seen_by (same q p) (same r x) (list_any (same r) rs) (finite.get m (q, r))

abbrev pub either : {X : Type 0} → Option X → Option X → Option X
either (Some x) o = Some x
either None o = o

below_none : {L X : Type 0} (R : L → L → Ordering) (x : L) (es : List (L × X)) → T (below_all R x es)
    → find_entry R x es ≡ None
below_none R x [] h = refl
below_none R x (e ∷ es) h =
    let parts = both_T (is_lt (R x e.0)) (below_all R x es) h in
    ap (λ r. cond (is_eq r) (Some e.1) (find_entry R x es)) (lesser (R x e.0) parts.0) ∙ below_none R x es parts.1

-- by the second part of the key, in whose order they are put
module _ {L X : Type 0} (R : L → L → Ordering) (alike : finite.IsAntisymmetric R) (S : Path × L → Path × L → Ordering)
    (total : IsTotalOrder S)
    (tied : (q p : Path) (n k : L) → eq_by_cmp S (q, n) (p, k) ≡ (same q p && eq_by_cmp R n k)) where
  pub get-put_part : (p : Path) (es : List (L × X)) (m : finite.FinMap S X) → T (is_sorted R es) → (q : Path) (n : L)
      → finite.get (put_part p es m) (q, n)
      ≡ cond (same q p) (either (find_entry R n es) (finite.get m (q, n))) (finite.get m (q, n))
  get-put_part p [] m h q n = by_both (same q p) (finite.get m (q, n))
    where
      by_both : (b : Bool) (g : Option X) → g ≡ cond b g g
      by_both true g = refl
      by_both false g = refl
  get-put_part p (e ∷ es) m h q n =
      let parts = both_T (below_all R e.0 es) (is_sorted R es) h in
      let at : finite.get (finite.insert m (p, e.0) e.1) (q, n)
      ≡ cond (same q p && eq_by_cmp R n e.0) (Some e.1) (finite.get m (q, n)) =
      finite.get-insert total m (p, e.0) e.1 (q, n)
      ∙ ap (λ b. cond b (Some e.1) (finite.get m (q, n))) (tied q p n e.0) in
      get-put_part p es (finite.insert m (p, e.0) e.1) parts.1 q n
      ∙ ap (λ g. cond (same q p) (either (find_entry R n es) g) g) at
      ∙ by (same q p) (eq_by_cmp R n e.0) refl (below_none R e.0 es parts.0)
    where
      by : (b s : Bool) → eq_by_cmp R n e.0 ≡ s → find_entry R e.0 es ≡ None
          → cond b (either (find_entry R n es) (cond (b && s) (Some e.1) (finite.get m (q, n))))
          (cond (b && s) (Some e.1) (finite.get m (q, n)))
          ≡ cond b (either (cond s (Some e.1) (find_entry R n es)) (finite.get m (q, n))) (finite.get m (q, n))
      by false s t none = refl
      by true true t none = ap (λ o. either o (Some e.1)) (ap (λ x. find_entry R x es) (tied_is alike n e.0 t) ∙ none)
      by true false t none = refl

pub get-put_outputs : (p : Path) (es : List (List ℕ × Path)) (m : finite.FinMap pair_cmp Path)
    → T (is_sorted bytes_cmp es) → (q n : Path)
    → finite.get (put_outputs p es m) (q, n)
    ≡ cond (same q p) (either (find_entry bytes_cmp n es) (finite.get m (q, n))) (finite.get m (q, n))
get-put_outputs = get-put_part bytes_cmp bytes_antisymmetric pair_cmp pair_total (λ q p n k. pair_tied q n (p, k))

pub get-put_pieces : (p : Path) (es : List (ℤ × List ℕ)) (m : finite.FinMap numbered_cmp (List ℕ))
    → T (is_sorted int_cmp es) → (q : Path) (n : ℤ)
    → finite.get (put_pieces p es m) (q, n)
    ≡ cond (same q p) (either (find_entry int_cmp n es) (finite.get m (q, n))) (finite.get m (q, n))
get-put_pieces =
    get-put_part int_cmp finite.int_cmp-IsAntisymmetric numbered_cmp numbered_total
    (λ q p n k. both_tied (bytes_cmp q p) (int_cmp n k))

-- an entry of two texts is taken away by a test of each text
pub without_pair : {X : Type 0} (m : finite.FinMap pair_cmp X) (a b : List ℕ)
    → finite.retain_keys m (λ k. not (same k.0 a && same k.1 b))
    ≡ finite.retain_keys m (λ k. not (eq_by_cmp pair_cmp k (a, b)))
without_pair m a b = λ i. finite.retain_keys m (λ k. not (sym (both_tied (bytes_cmp k.0 a) (bytes_cmp k.1 b)) i))
