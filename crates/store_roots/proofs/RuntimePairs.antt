-- Labels and targets that are passed, and the runtime roots that they become.
use Rattle.std.proofs.Common.{◌≡◌, List, [], ◌∷◌, ◌++◌, map, length, Bool, true, false, cond, ◌&&◌, refl, sym, ap}
use Rattle.std.proofs.Common.{subst, ◌∙◌, append-nil, String, Global}
use Rattle.std.specs.Prelude.{if◌then◌else◌, string_bytes}
use Rattle.std.specs.declared.cmp.Ordering.{Ordering}
use Rattle.std.specs.declared.cmp.Ordering.TheVariants.{Less, Equal, Greater}
use Rattle.std.specs.Ordering.{match_ordering}
use Rattle.std.specs.Cmp.{IsTotalOrder}
use Rattle.std.specs.BTreeSet.{insert_key}
use Rattle.std.specs.BTreeMap.{insert_entry}
use Rattle.std.specs.List.{filter, list_all}
use Rattle.std.specs.List.Sorted.{IsStrictlySortedBy}
use Rattle.std.specs.FinMap as finite
use Rattle.paths.specs.Root.{Set, set_of, is_runtime_label}
use Rattle.live.proofs.Order.{firsts}
use Rattle.model.specs.World.{Path, Pair, World, has, pair_cmp}
use Rattle.tables_outline.specs.Maps.{labelled_bytes, seen_map, seen_set}
use Rattle.tables_outline.specs.Outline.{OutlineValue, outline_of}
use Rattle.tables_outline.proofs.Trees.{seen, cmp, listed, inserted}
use Rattle.tables_outline.proofs.Ordered.{mapped_length}
use Rattle.store_promises.proofs.Outlined.{has_outlined}
use Rattle.intake.proofs.FirstEntries.{Precede, put_next}

-- whether the labels are those of runtime roots
pub labels_mapped : (ps : List (String Global × Path))
    → list_all (λ (p : Pair). is_runtime_label p.0) (map labelled_bytes ps)
    ≡ list_all (λ (p : String Global × Path). is_runtime_label (string_bytes p.0)) ps
labels_mapped [] = refl
labels_mapped (p ∷ ps) = ap (λ b. is_runtime_label (string_bytes p.0) && b) (labels_mapped ps)

-- ---- pairs that pass a test

module _ {A B : Type 0} (f : A → B) (test : B → Bool) where
  -- those of some pairs, as entries of a set
  abbrev pub entries_of : List A → List (B × Unit {0})
  entries_of ps = map (λ (k : B). let e : B × Unit {0} = (k, tt) in e) (filter test (map f ps))

  one : (b : Bool) (k : B) → map (λ (k : B). let e : B × Unit {0} = (k, tt) in e) (cond b (k ∷ []) [])
      ≡ cond b ((k, tt) ∷ []) []
  one true k = refl
  one false k = refl

  -- one pair more, at the end
  pub pushed : (ps : List A) (p : A)
      → entries_of (ps ++ p ∷ []) ≡ entries_of ps ++ cond (test (f p)) ((f p, tt) ∷ []) []
  pushed [] p = one (test (f p)) (f p)
  pushed (x ∷ ps) p = by (test (f x)) (pushed ps p)
    where
      by : (t : Bool) → entries_of (ps ++ p ∷ []) ≡ entries_of ps ++ cond (test (f p)) ((f p, tt) ∷ []) []
          → map (λ (k : B). let e : B × Unit {0} = (k, tt) in e)
          (cond t (f x ∷ filter test (map f (ps ++ p ∷ []))) (filter test (map f (ps ++ p ∷ []))))
          ≡ map (λ (k : B). let e : B × Unit {0} = (k, tt) in e)
          (cond t (f x ∷ filter test (map f ps)) (filter test (map f ps))) ++ cond (test (f p)) ((f p, tt) ∷ []) []
      by true later = ap (λ (l : List (B × Unit {0})). (f x, tt) ∷ l) later
      by false later = later

module _ {L : Type 0} (R : L → L → Ordering) (o : IsTotalOrder R) where
  -- the last one is put into the set, if it passes
  pub next_pair : (b : Bool) (before left : List (L × Unit {0})) (k : L) (m new : Set R) (all : List (L × Unit {0}))
      → before ≡ left ++ cond b ((k, tt) ∷ []) [] → new ≡ (if b then finite.insert m k tt else m)
      → Precede R before m all → Precede R left new all
  next_pair true before left k m new all split is h = put_next R o before left k tt m new all split is h
  next_pair false before left k m new all split is h =
      subst (λ (n : Set R). Precede R left n all) (sym is)
      (subst (λ (l : List (L × Unit {0})). Precede R l m all) (split ∙ append-nil left) h)

-- ---- sets that grow, and how many there are

module _ {K L : Type 0} (R : L → L → Ordering) (key : K → L) (o : IsTotalOrder R)
    (same : finite.IsAntisymmetric R) where
  abbrev paired : List K → List (K × Unit {0})
  paired ks = map (λ (k : K). let e : K × Unit {0} = (k, tt) in e) ks

  seen_paired : (ks : List K) → seen R key (λ (u : Unit {0}). u) (paired ks)
      ≡ map (λ (k : L). let e : L × Unit {0} = (k, tt) in e) (map key ks)
  seen_paired [] = refl
  seen_paired (k ∷ ks) = ap (λ (l : List (L × Unit {0})). (key k, tt) ∷ l) (seen_paired ks)

  paired_inserted : (C : K → K → Ordering) (keys : List K) (k : K)
      → paired (insert_key C keys k) ≡ insert_entry C (paired keys) k tt
  paired_inserted C [] k = refl
  paired_inserted C (x ∷ xs) k = by (C k x) (paired_inserted C xs k)
    where
      by : (r : Ordering) → paired (insert_key C xs k) ≡ insert_entry C (paired xs) k tt
          → paired (match_ordering r (k ∷ x ∷ xs) (x ∷ xs) (x ∷ insert_key C xs k))
          ≡ match_ordering r ((k, tt) ∷ (x, tt) ∷ paired xs) ((x, tt) ∷ paired xs)
          ((x, tt) ∷ insert_entry C (paired xs) k tt)
      by Less later = refl
      by Equal later = refl
      by Greater later = ap (λ (l : List (K × Unit {0})). (x, tt) ∷ l) later

  -- a key is put into the set
  pub key_put : (keys : List K) (k : K)
      → seen_set R key (insert_key (λ a b. R (key a) (key b)) keys k) ≡ finite.insert (seen_set R key keys) (key k) tt
  key_put keys k =
      ap (λ (es : List (L × Unit {0})). finite.from_entries {R = R} es)
      (sym (seen_paired (insert_key (λ a b. R (key a) (key b)) keys k)))
      ∙ ap (λ (es : List (K × Unit {0})). seen_map R key (λ (u : Unit {0}). u) es)
      (paired_inserted (λ a b. R (key a) (key b)) keys k)
      ∙ inserted R key (λ (u : Unit {0}). u) o same (paired keys) k tt
      ∙ ap (λ (es : List (L × Unit {0})). finite.insert (finite.from_entries {R = R} es) (key k) tt) (seen_paired keys)

  pub counted : (keys : List K) → IsStrictlySortedBy (λ a b. R (key a) (key b)) keys
      → finite.len (seen_set R key keys) ≡ length keys
  counted keys ordered =
      finite.len-entries (seen_set R key keys)
      ∙ ap (λ (es : List (L × Unit {0})). length (finite.entries (finite.from_entries {R = R} es)))
      (sym (seen_paired keys))
      ∙ ap length (listed R key (λ (u : Unit {0}). u) o same (paired keys)
      (subst (λ (ks : List K). IsStrictlySortedBy (cmp R key (λ (u : Unit {0}). u)) ks) (sym (firsts keys))
      ordered))
      ∙ mapped_length (λ (e : K × Unit {0}). let d : L × Unit {0} = (key e.0, e.1) in d) (paired keys)
      ∙ mapped_length (λ (k : K). let e : K × Unit {0} = (k, tt) in e) keys

-- ---- in each world of an outline

pub valid_by_outline : (o : OutlineValue) (w : World) → outline_of w ≡ o → (ps : List Pair)
    → set_of pair_cmp (filter (λ (p : Pair). finite.contains_key o.objects p.1) ps)
    ≡ set_of pair_cmp (filter (λ (p : Pair). has w p.1) ps)
valid_by_outline o w is ps =
    ap (λ (x : OutlineValue). set_of pair_cmp (filter (λ (p : Pair). finite.contains_key x.objects p.1) ps)) (sym is)
    ∙ (λ i. set_of pair_cmp (filter (λ (p : Pair). has_outlined w p.1 i) ps))
