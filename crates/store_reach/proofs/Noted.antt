-- Pairs that a caller has seen, in a tree.
use Rattle.std.proofs.Common.{◌≡◌, ℕ, List, [], ◌∷◌, ◌++◌, map, Bool, true, false, not, ◌&&◌, ◌||◌, refl, sym, ap, ap₂}
use Rattle.std.proofs.Common.{◌∙◌, String}
use Rattle.std.specs.Prelude.{if◌then◌else◌}
use Rattle.std.specs.declared.cmp.Ordering.{Ordering}
use Rattle.std.specs.declared.alloc.Global.{Global}
use Rattle.std.specs.List.{list_any}
use Rattle.std.specs.Ordering.{eq_by_cmp, is_eq}
use Rattle.std.specs.Cmp.{eq_by_cmp_equiv, both_tied}
use Rattle.std.specs.BTreeSet.{insert_key}
use Rattle.std.proofs.lemmas.List.Folds.{list_any-append}
use Rattle.paths.specs.Root.{bytes_cmp}
use Rattle.policy.specs.declared.kinds.Class.{Class}
use Rattle.policy.specs.Rules.{is_trusted}
use Rattle.model.specs.World.{Pair, pair_cmp}
use Rattle.tables_outline.specs.Maps.{labelled_bytes}
use Rattle.tables_outline.proofs.Orders.{bytes_total, pair_total}
use Rattle.model.specs.Seen.{same_pair}
use Rattle.tables_outline.specs.Gaining.{has_tied}
use Rattle.store_reach.specs.Unique.{AreListed}
use Rattle.tables_outline.proofs.Loops.{map-append}
use Rattle.tables_outline.proofs.Sets.{has_inserted}

abbrev Labelled : Type 0
Labelled = String Global × List ℕ

-- the order of pairs of a text and a path
abbrev pub labelled_cmp : Labelled → Labelled → Ordering
labelled_cmp p q = pair_cmp (labelled_bytes p) (labelled_bytes q)

-- pairs are the same where they tie
same_tied : (p q : Pair) → eq_by_cmp pair_cmp p q ≡ same_pair q p
same_tied p q =
    sym (both_tied (eq_by_cmp bytes_cmp p.0 q.0) (eq_by_cmp bytes_cmp p.1 q.1) (bytes_cmp p.0 q.0) (bytes_cmp p.1 q.1)
    refl refl)
    ∙ ap₂ (λ a b. a && b) ((eq_by_cmp_equiv bytes_total).symm p.0 q.0) ((eq_by_cmp_equiv bytes_total).symm p.1 q.1)

any_same : (p : Pair) (ps : List Pair) → has_tied pair_cmp p ps ≡ list_any (λ q. same_pair q p) ps
any_same p [] = refl
any_same p (q ∷ ps) = ap₂ (λ a b. a || b) (same_tied p q) (any_same p ps)

found : (p : Labelled) (keys : List Labelled)
    → list_any (λ k. is_eq (labelled_cmp p k)) keys ≡ has_tied pair_cmp (labelled_bytes p) (map labelled_bytes keys)
found p [] = refl
found p (k ∷ keys) = ap (λ b. eq_by_cmp pair_cmp (labelled_bytes p) (labelled_bytes k) || b) (found p keys)

same_all : (q : Pair) (p : Labelled) (shown : List Labelled)
    → has_tied pair_cmp q (map labelled_bytes (shown ++ p ∷ []))
    ≡ (has_tied pair_cmp q (map labelled_bytes shown) || (eq_by_cmp pair_cmp q (labelled_bytes p) || false))
same_all q p shown =
    ap (has_tied pair_cmp q) (map-append labelled_bytes shown (p ∷ []))
    ∙ list_any-append (eq_by_cmp pair_cmp q) (map labelled_bytes shown) (labelled_bytes p ∷ [])

first_time : (b c : Bool) → b ≡ not c → not b ≡ c
first_time b true e = ap not e
first_time b false e = ap not e

-- a pair is put among the keys, as one of the same text and path
module _ (class : Class) (keys : List Labelled) (k p : Labelled) (shown : List Labelled)
    (same_as : labelled_bytes k ≡ labelled_bytes p) (stranger : is_trusted class ≡ false)
    (are : AreListed class keys shown) (b : Bool)
    (added : b ≡ not (list_any (λ x. is_eq (labelled_cmp k x)) keys)) where
  had : list_any (λ x. is_eq (labelled_cmp k x)) keys ≡ has_tied pair_cmp (labelled_bytes p) (map labelled_bytes shown)
  had = found k keys ∙ ap (λ z. has_tied pair_cmp z (map labelled_bytes keys)) same_as ∙ are stranger (labelled_bytes p)

  -- it wasn't there if and only if it wasn't shown
  pub noted_first : not b ≡ (not (is_trusted class)
      && list_any (λ q. same_pair q (labelled_bytes p)) (map labelled_bytes shown))
  noted_first =
      first_time b _ added ∙ had ∙ any_same (labelled_bytes p) (map labelled_bytes shown)
      ∙ ap (λ t. not t && list_any (λ q. same_pair q (labelled_bytes p)) (map labelled_bytes shown)) (sym stranger)

  after : (q : Pair) → has_tied pair_cmp q (map labelled_bytes (insert_key labelled_cmp keys k))
      ≡ (has_tied pair_cmp q (map labelled_bytes shown) || (eq_by_cmp pair_cmp q (labelled_bytes p) || false))
  after q =
      has_inserted pair_cmp labelled_bytes pair_total labelled_cmp (λ x y. refl) q keys k
      ∙ ap₂ (λ a z. a || (eq_by_cmp pair_cmp q z || false)) (are stranger q) same_as

  present : (a c : Bool) → (c ≡ true → a ≡ true) → (a || (c || false)) ≡ a
  present true c h = refl
  present false true h = sym (h refl)
  present false false h = refl

  moved : (q : Pair) → eq_by_cmp pair_cmp q (labelled_bytes p) ≡ true → (xs : List Pair)
      → has_tied pair_cmp q xs ≡ has_tied pair_cmp (labelled_bytes p) xs
  moved q h [] = refl
  moved q h (x ∷ xs) = ap₂ (λ a c. a || c) ((eq_by_cmp_equiv pair_total).congr q (labelled_bytes p) x h) (moved q h xs)

  -- the keys are what is shown then
  pub noted : AreListed class (insert_key labelled_cmp keys k) (if b then shown ++ p ∷ [] else shown)
  noted = λ t q. by b (first_time b _ added) q
    where
      by : (c : Bool) → not c ≡ list_any (λ x. is_eq (labelled_cmp k x)) keys → (q : Pair)
          → has_tied pair_cmp q (map labelled_bytes (insert_key labelled_cmp keys k))
          ≡ has_tied pair_cmp q (map labelled_bytes (if c then shown ++ p ∷ [] else shown))
      by true e q = after q ∙ sym (same_all q p shown)
      by false e q =
          after q ∙ present (has_tied pair_cmp q (map labelled_bytes shown)) (eq_by_cmp pair_cmp q (labelled_bytes p))
          (λ h. moved q h (map labelled_bytes shown) ∙ sym had ∙ sym e)
