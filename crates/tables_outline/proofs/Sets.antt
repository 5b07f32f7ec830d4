-- Trees as sets, and loops that fill them.
use Rattle.std.proofs.Common.{◌≡◌, List, [], ◌∷◌, ◌++◌, map, Bool, true, false, ◌||◌, refl, sym, ap, ◌∙◌}
use Rattle.std.specs.declared.cmp.Ordering.{Ordering}
use Rattle.std.specs.declared.cmp.Ordering.TheVariants.{Less, Equal, Greater}
use Rattle.std.specs.Ordering.{eq_by_cmp, is_eq, match_ordering}
use Rattle.std.specs.Cmp.{IsTotalOrder, eq_by_cmp_equiv}
use Rattle.std.specs.BTreeSet.{insert_key}
use Rattle.std.specs.FinMap as finite
use Rattle.std.proofs.lemmas.List.Folds.{list_any-append}
use Rattle.paths.specs.Root.{Set}
use Rattle.live.proofs.Order.{contains_key-set_of}
use Rattle.tables_outline.specs.Maps.{seen_set}
use Rattle.tables_outline.specs.Gaining.{has_tied, Gains}

-- ---- truth values

prefix_last : (a b r : Bool) → (a || (b || r)) ≡ ((b || r) || (a || false))
prefix_last true true r = refl
prefix_last true false true = refl
prefix_last true false false = refl
prefix_last false true r = refl
prefix_last false false true = refl
prefix_last false false false = refl

present_already : (a b r : Bool) → a ≡ b → (b || r) ≡ ((b || r) || (a || false))
present_already true true r e = refl
present_already true false r e = absurd cc
present_already false true r e = refl
present_already false false true e = refl
present_already false false false e = refl

pub joined : (a b r : Bool) → (a || (b || r)) ≡ ((a || b) || r)
joined true b r = refl
joined false b r = refl

pub or_none : (b : Bool) → (b || false) ≡ b
or_none true = refl
or_none false = refl

-- ---- insertion

module _ {K L : Type 0} (R : L → L → Ordering) (key : K → L) (o : IsTotalOrder R) where
  module _ (C : K → K → Ordering) (agree : (a b : K) → C a b ≡ R (key a) (key b)) where
    tied_by : (k x : K) (q : L) → C k x ≡ Equal → eq_by_cmp R q (key k) ≡ eq_by_cmp R q (key x)
    tied_by k x q e =
        (eq_by_cmp_equiv o).symm q (key k)
        ∙ (eq_by_cmp_equiv o).congr (key k) (key x) q (ap is_eq (sym (agree k x) ∙ e))
        ∙ (eq_by_cmp_equiv o).symm (key x) q

    pub has_inserted : (q : L) (keys : List K) (k : K)
        → has_tied R q (map key (insert_key C keys k))
        ≡ (has_tied R q (map key keys) || (eq_by_cmp R q (key k) || false))
    has_inserted q [] k = refl
    has_inserted q (x ∷ xs) k = by (C k x) refl (has_inserted q xs k)
      where
        by : (r : Ordering) → C k x ≡ r
            → has_tied R q (map key (insert_key C xs k))
            ≡ (has_tied R q (map key xs) || (eq_by_cmp R q (key k) || false))
            → has_tied R q (map key (match_ordering r (k ∷ x ∷ xs) (x ∷ xs) (x ∷ insert_key C xs k)))
            ≡ ((eq_by_cmp R q (key x) || has_tied R q (map key xs)) || (eq_by_cmp R q (key k) || false))
        by Less e later = prefix_last (eq_by_cmp R q (key k)) (eq_by_cmp R q (key x)) (has_tied R q (map key xs))
        by Equal e later =
            present_already (eq_by_cmp R q (key k)) (eq_by_cmp R q (key x)) (has_tied R q (map key xs))
            (tied_by k x q e)
        by Greater e later =
            ap (λ b. eq_by_cmp R q (key x) || b) later
            ∙ joined (eq_by_cmp R q (key x)) (has_tied R q (map key xs)) (eq_by_cmp R q (key k) || false)

  -- a key is inserted: the set gains it
  pub gains_key : (C : K → K → Ordering) (keys new : List K) (k : K) → new ≡ insert_key C keys k
      → ((a b : K) → C a b ≡ R (key a) (key b)) → Gains R (seen_set R key keys) (key k ∷ []) (seen_set R key new)
  gains_key C keys new k e agree q =
      contains_key-set_of o (map key new) q ∙ ap (λ ks. has_tied R q (map key ks)) e ∙ has_inserted C agree q keys k
      ∙ ap (λ b. b || (eq_by_cmp R q (key k) || false)) (sym (contains_key-set_of o (map key keys) q))

-- ---- loops

module _ {L : Type 0} (R : L → L → Ordering) where
  -- with the items that are left the set will have what it had at first, and all items
  abbrev pub Fills : Set R → List L → Set R → List L → Type 0
  Fills old all now left =
      (q : L) → (finite.contains_key now q || has_tied R q left) ≡ (finite.contains_key old q || has_tied R q all)

  pub filled_more : (old : Set R) (all : List L) (now new : Set R) (some rest : List L) → Gains R now some new
      → Fills old all now (some ++ rest) → Fills old all new rest
  filled_more old all now new some rest gains fills q =
      ap (λ b. b || has_tied R q rest) (gains q)
      ∙ sym (joined (finite.contains_key now q) (has_tied R q some) (has_tied R q rest))
      ∙ ap (λ b. finite.contains_key now q || b) (sym (list_any-append (eq_by_cmp R q) some rest)) ∙ fills q

  pub filled : (old : Set R) (all : List L) (now : Set R) (left : List L) → left ≡ [] → Fills old all now left
      → Gains R old all now
  filled old all now left none fills q =
      sym (or_none (finite.contains_key now q)) ∙ ap (λ l. finite.contains_key now q || has_tied R q l) (sym none)
      ∙ fills q

  pub gains_both : (old mid new : Set R) (xs ys : List L) → Gains R old xs mid → Gains R mid ys new
      → Gains R old (xs ++ ys) new
  gains_both old mid new xs ys g h q =
      h q ∙ ap (λ b. b || has_tied R q ys) (g q)
      ∙ sym (joined (finite.contains_key old q) (has_tied R q xs) (has_tied R q ys))
      ∙ ap (λ b. finite.contains_key old q || b) (sym (list_any-append (eq_by_cmp R q) xs ys))
