-- Trees as sets: the test of a key, and what is left where keys are removed; and the same of what sessions keep.
use Rattle.std.proofs.Common.{◌≡◌, List, [], ◌∷◌, map, length, Bool, true, false, ◌||◌, cond, Some, None, Option}
use Rattle.std.proofs.Common.{is_some, refl, sym, ap, ◌∙◌, subst, string_bytes}
use Rattle.std.specs.declared.cmp.Ordering.{Ordering}
use Rattle.std.specs.Ordering.{eq_by_cmp, is_eq, nat_cmp, ordering_then}
use Rattle.std.specs.Cmp.{IsTotalOrder}
use Rattle.std.specs.List.{filter, list_any}
use Rattle.std.specs.List.Sorted.{IsStrictlySortedBy}
use Rattle.std.specs.Set.{remove_key}
use Rattle.std.specs.BTreeSet.{insert_key}
use Rattle.std.specs.FinMap as finite
use Rattle.std.specs.FinMap.Entries.{find as find_entry}
use Rattle.std.proofs.lemmas.Bool.{false≢true}
use Rattle.std.proofs.lemmas.List.Kept.{IsStrictlySortedBy-filter}
use Rattle.paths.specs.Root.{bytes_cmp, Set}
use Rattle.model.specs.World.{Temporary, temporary_cmp}
use Rattle.tables_outline.specs.Maps.{seen_set, temporary_bytes}
use Rattle.tables_outline.specs.Temporary.{unkept}
use Rattle.tables_outline.proofs.Orders.{temporary_total, temporary_antisymmetric}
use Rattle.tables_outline.proofs.Ordered.{mapped_length}
use Rattle.tables_outline.proofs.Puts.{tied_is, get-kept, unput_put}
use Rattle.tables_outline.proofs.SetTrees.{with_unit, key_inserted, set_keys, then_assoc, SessionEntry}

module _ {K L : Type 0} (R : L → L → Ordering) (key : K → L) (o : IsTotalOrder R)
    (same : finite.IsAntisymmetric R) where
  find-any : (q : L) (keys : List K)
      → is_some (find_entry R q (map with_unit (map key keys))) ≡ list_any (λ k. eq_by_cmp R q (key k)) keys
  find-any q [] = refl
  find-any q (k ∷ ks) = by (eq_by_cmp R q (key k)) (find-any q ks)
    where
      by : (b : Bool) → is_some (find_entry R q (map with_unit (map key ks))) ≡ list_any (λ k. eq_by_cmp R q (key k)) ks
          → is_some (cond b (Some tt) (find_entry R q (map with_unit (map key ks))))
          ≡ (b || list_any (λ k. eq_by_cmp R q (key k)) ks)
      by true later = refl
      by false later = later

  -- whether a key is there
  pub has_key : (keys : List K) (q : L)
      → finite.contains_key (seen_set R key keys) q ≡ list_any (λ k. eq_by_cmp R q (key k)) keys
  has_key keys q = ap is_some (finite.get-from_entries o (map with_unit (map key keys)) q) ∙ find-any q keys

  found_filtered : (p : L → Bool) (q : L) (keys : List K)
      → find_entry R q (map with_unit (map key (filter (λ k. p (key k)) keys)))
      ≡ cond (p q) (find_entry R q (map with_unit (map key keys))) None
  found_filtered p q [] = none (p q)
    where
      none : (b : Bool) → ◌≡◌ {A = Option (Unit {0})} None (cond b None None)
      none true = refl
      none false = refl
  found_filtered p q (k ∷ ks) = by (p (key k)) refl (eq_by_cmp R q (key k)) refl (found_filtered p q ks)
    where
      by : (a : Bool) → p (key k) ≡ a → (b : Bool) → eq_by_cmp R q (key k) ≡ b
          → find_entry R q (map with_unit (map key (filter (λ k. p (key k)) ks)))
          ≡ cond (p q) (find_entry R q (map with_unit (map key ks))) None
          → find_entry R q (map with_unit
          (map key (cond a (k ∷ filter (λ k. p (key k)) ks) (filter (λ k. p (key k)) ks))))
          ≡ cond (p q) (cond b (Some tt) (find_entry R q (map with_unit (map key ks)))) None
      by true e true t later =
          ap (λ b. cond b (Some tt) (find_entry R q (map with_unit (map key (filter (λ k. p (key k)) ks))))) t
          ∙ sym (ap (λ b. cond b (Some tt) None) (ap p (tied_is same q (key k) t) ∙ e))
      by true e false t later =
          ap (λ b. cond b (Some tt) (find_entry R q (map with_unit (map key (filter (λ k. p (key k)) ks))))) t ∙ later
      by false e true t later =
          later ∙ ap (λ b. cond b (find_entry R q (map with_unit (map key ks))) None)
          (ap p (tied_is same q (key k) t) ∙ e)
          ∙ sym (ap (λ b. cond b (Some tt) None) (ap p (tied_is same q (key k) t) ∙ e))
      by false e false t later = later

  -- the keys that pass a test
  pub keys_retained : (p : L → Bool) (keys : List K)
      → seen_set R key (filter (λ k. p (key k)) keys) ≡ finite.retain_keys (seen_set R key keys) p
  keys_retained p keys = finite.same_map o same _ _ (λ q.
      finite.get-from_entries o (map with_unit (map key (filter (λ k. p (key k)) keys))) q ∙ found_filtered p q keys
      ∙ sym (get-kept o same (seen_set R key keys) p q
      ∙ ap (λ g. cond (p q) g None) (finite.get-from_entries o (map with_unit (map key keys)) q)))

  -- how many they are
  pub keys_counted : (p : L → Bool) (keys : List K) → IsStrictlySortedBy (λ a b. R (key a) (key b)) keys
      → finite.len (finite.retain_keys (seen_set R key keys) p) ≡ length (filter (λ k. p (key k)) keys)
  keys_counted p keys sorted =
      ap finite.len (sym (keys_retained p keys))
      ∙ finite.len-entries (seen_set R key (filter (λ k. p (key k)) keys))
      ∙ sym (mapped_length (λ (e : L × Unit {0}). e.0) (finite.entries (seen_set R key (filter (λ k. p (key k)) keys))))
      ∙ ap length (set_keys R key o same (filter (λ k. p (key k)) keys)
      (IsStrictlySortedBy-filter (λ a b. R (key a) (key b)) (λ k. p (key k)) keys sorted))
      ∙ mapped_length key (filter (λ k. p (key k)) keys)

  -- a key that was found is removed, and isn't there then
  pub key_removed : (keys : List K) (q : L)
      → list_any (λ k. eq_by_cmp R q (key k)) (remove_key (λ k. eq_by_cmp R q (key k)) keys) ≡ false
      → seen_set R key (remove_key (λ k. eq_by_cmp R q (key k)) keys) ≡ finite.remove (seen_set R key keys) q
  key_removed keys q gone = finite.same_map o same _ _ (λ x.
      finite.get-from_entries o (map with_unit (map key (remove_key (λ k. eq_by_cmp R q (key k)) keys))) x
      ∙ at x (eq_by_cmp R x q) refl
      ∙ sym (finite.get-remove o (seen_set R key keys) q x
      ∙ ap (cond (eq_by_cmp R x q) None) (finite.get-from_entries o (map with_unit (map key keys)) x)))
    where
      none_found : (g : Option (Unit {0})) → is_some g ≡ false → g ≡ None
      none_found None e = refl
      none_found (Some u) e = absurd (false≢true (sym e))

      other : (x : L) (ks : List K) → eq_by_cmp R x q ≡ false
          → find_entry R x (map with_unit (map key (remove_key (λ k. eq_by_cmp R q (key k)) ks)))
          ≡ find_entry R x (map with_unit (map key ks))
      other x [] n = refl
      other x (k ∷ ks) n = by (eq_by_cmp R q (key k)) refl (other x ks n)
        where
          by : (b : Bool) → eq_by_cmp R q (key k) ≡ b
              → find_entry R x (map with_unit (map key (remove_key (λ k. eq_by_cmp R q (key k)) ks)))
              ≡ find_entry R x (map with_unit (map key ks))
              → find_entry R x (map with_unit (map key (cond b ks (k ∷ remove_key (λ k. eq_by_cmp R q (key k)) ks))))
              ≡ cond (eq_by_cmp R x (key k)) (Some tt) (find_entry R x (map with_unit (map key ks)))
          by true t later =
              ap (λ b. cond b (Some tt) (find_entry R x (map with_unit (map key ks))))
              (sym (ap (eq_by_cmp R x) (sym (tied_is same q (key k) t)) ∙ n))
          by false t later = ap (cond (eq_by_cmp R x (key k)) (Some tt)) later

      at : (x : L) (b : Bool) → eq_by_cmp R x q ≡ b
          → find_entry R x (map with_unit (map key (remove_key (λ k. eq_by_cmp R q (key k)) keys)))
          ≡ cond b None (find_entry R x (map with_unit (map key keys)))
      at x true t =
          ap (λ y. find_entry R y (map with_unit (map key (remove_key (λ k. eq_by_cmp R q (key k)) keys))))
          (tied_is same x q t)
          ∙ none_found _ (find-any q (remove_key (λ k. eq_by_cmp R q (key k)) keys) ∙ gone)
      at x false t = other x keys t

-- ---- what sessions keep

-- the order of tuples, as comparisons of them give it
abbrev pub tuple_cmp : SessionEntry → SessionEntry → Ordering
tuple_cmp a b =
    ordering_then (ordering_then (bytes_cmp (string_bytes a.0) (string_bytes b.0)) (nat_cmp a.1 b.1))
    (bytes_cmp a.2 b.2)

pub tuples_alike : tuple_cmp ≡ (λ (a b : SessionEntry). temporary_cmp (temporary_bytes a) (temporary_bytes b))
tuples_alike =
    λ i a b. then_assoc (bytes_cmp (string_bytes a.0) (string_bytes b.0)) (nat_cmp a.1 b.1) (bytes_cmp a.2 b.2) i

pub has_kept : (keys : List SessionEntry) (q : SessionEntry)
    → list_any (λ k. is_eq (tuple_cmp q k)) keys
    ≡ finite.contains_key (seen_set temporary_cmp temporary_bytes keys) (temporary_bytes q)
has_kept keys q =
    (λ i. list_any (λ k. is_eq (tuples_alike i q k)) keys)
    ∙ sym (has_key temporary_cmp temporary_bytes temporary_total temporary_antisymmetric keys (temporary_bytes q))

pub put_kept : (keys : List SessionEntry) (k : SessionEntry)
    → seen_set temporary_cmp temporary_bytes (insert_key tuple_cmp keys k)
    ≡ finite.insert (seen_set temporary_cmp temporary_bytes keys) (temporary_bytes k) tt
put_kept keys k =
    (λ i. seen_set temporary_cmp temporary_bytes (insert_key (tuples_alike i) keys k))
    ∙ key_inserted temporary_cmp temporary_bytes temporary_total temporary_antisymmetric keys k

pub drop_kept : (keys : List SessionEntry) (q : SessionEntry)
    → list_any (λ k. is_eq (tuple_cmp q k)) (remove_key (λ k. is_eq (tuple_cmp q k)) keys) ≡ false
    → seen_set temporary_cmp temporary_bytes (remove_key (λ k. is_eq (tuple_cmp q k)) keys)
    ≡ finite.remove (seen_set temporary_cmp temporary_bytes keys) (temporary_bytes q)
drop_kept keys q =
    subst (λ (R : SessionEntry → SessionEntry → Ordering). list_any (λ k. is_eq (R q k))
    (remove_key (λ k. is_eq (R q k)) keys) ≡ false
    → seen_set temporary_cmp temporary_bytes (remove_key (λ k. is_eq (R q k)) keys)
    ≡ finite.remove (seen_set temporary_cmp temporary_bytes keys) (temporary_bytes q)) (sym tuples_alike)
    (key_removed temporary_cmp temporary_bytes temporary_total temporary_antisymmetric keys (temporary_bytes q))

-- a path that was put is left as it was before
pub unkept_put : (m : Set temporary_cmp) (t : Temporary) → unkept (finite.insert m t tt) t (finite.contains_key m t) ≡ m
unkept_put m t = by (finite.get m t) refl
  where
    by : (g : Option (Unit {0})) → finite.get m t ≡ g → unkept (finite.insert m t tt) t (is_some g) ≡ m
    by None e = unput_put temporary_total temporary_antisymmetric m t tt None (sym e)
    by (Some u) e = unput_again (sym e)
      where
        unput_again : Some u ≡ finite.get m t → finite.insert m t tt ≡ m
        unput_again is =
            finite.same_map temporary_total temporary_antisymmetric _ _
            (λ q. finite.get-insert temporary_total m t tt q ∙ at q (eq_by_cmp temporary_cmp q t) refl)
          where
            at : (q : Temporary) (b : Bool) → eq_by_cmp temporary_cmp q t ≡ b
                → cond b (Some tt) (finite.get m q) ≡ finite.get m q
            at q true k = is ∙ ap (finite.get m) (sym (tied_is temporary_antisymmetric q t k))
            at q false k = refl
