-- What a collection or a deletion reports of what was deleted.
use Rattle.std.proofs.Common.{◌≡◌, ℕ, ◌+◌, List, [], ◌∷◌, length, map, Bool, true, false, not, cond, Some, None, Option}
use Rattle.std.proofs.Common.{refl, sym, ap, ◌∙◌, IsTrue, subst, T}
use Rattle.std.specs.Prelude.{Contains, is_some, IsFalse}
use Rattle.std.specs.List.{filter, AllByRecursion}
use Rattle.std.specs.Option.{option_map_or}
use Rattle.std.specs.List.Sorted.{IsStrictlySortedBy}
use Rattle.std.specs.declared.cmp.Ordering.{Ordering}
use Rattle.std.specs.declared.cmp.Ordering.TheVariants.{Less}
use Rattle.std.specs.Ordering.{is_lt}
use Rattle.std.specs.Cmp.Lexicographic.{nat_list_cmp_total}
use Rattle.std.specs.FinMap as finite
use Rattle.std.specs.FinMap.Entries.{is_sorted, below_all}
use Rattle.std.proofs.lemmas.Bool.{false≢true}
use Rattle.std.proofs.lemmas.List.Kept.{IsStrictlySortedBy-filter}
use Rattle.std.proofs.lemmas.List.Sums.{sum_by-cons}
use Rattle.paths.specs.Root.{bytes_cmp}
use Rattle.live.proofs.Members.{at_head, behind, lesser, both_T}
use Rattle.policy.specs.Settings.{Settings}
use Rattle.model.specs.World.{Path, Object, World, has, all_paths}
use Rattle.model.specs.Request.{collect, delete}
use Rattle.model.specs.Reply.{freed}
use Rattle.model.specs.Liveness.{lives, is_deleted_with, size_of, bytes_in, collected_paths}
use Rattle.model.specs.Effects.{keeping}
use Rattle.laws.specs.Changes.{Weigh, ReportsDeleted, FreesAsReported}
use Rattle.model.proofs.MapMembers.{bytes_antisymmetric, key_listed, listed_key}
use Rattle.model.proofs.Filtered.{in_filtered, from_filtered}
use Rattle.model.proofs.Worlds.{get-keeping, kept_if}
use Rattle.model.proofs.Limited.{leaves, is_consumed, reported, deleted_or_stays}

-- ---- keys in order

module _ {K X : Type 0} (R : K → K → Ordering) where
  all_below : (k : K) (es : List (K × X)) → T (below_all R k es)
      → AllByRecursion (λ y. R k y ≡ Less) (map (λ (e : K × X). e.0) es)
  all_below k [] h = tt
  all_below k (e ∷ es) h = let parts =
      both_T (is_lt (R k e.0)) (below_all R k es) h in (lesser (R k e.0) parts.0, all_below k es parts.1)

  entries_rise : (es : List (K × X)) → T (is_sorted R es) → IsStrictlySortedBy R (map (λ (e : K × X). e.0) es)
  unfolding IsStrictlySortedBy
  entries_rise [] h = tt
  entries_rise (e ∷ es) h = let parts =
      both_T (below_all R e.0 es) (is_sorted R es) h in (all_below e.0 es parts.0, entries_rise es parts.1)

  pub keys_rise : (m : finite.FinMap R X) → IsStrictlySortedBy R (finite.keys m)
  keys_rise m = entries_rise (finite.entries m) (finite.entries_sorted m)

-- ---- bytes

pub weighed : (w : World) (ps : List Path) → ((p : Path) → Contains ps p → IsTrue (has w p))
    → Weigh w ps (bytes_in w ps)
weighed w [] f = refl
weighed w (p ∷ ps) f =
    by (finite.get w.objects p) refl (f p (at_head p ps)) (weighed w ps (λ q c. f q (behind p q ps c)))
  where
    by : (o : Option Object) → finite.get w.objects p ≡ o → is_some o ≡ true → Weigh w ps (bytes_in w ps)
        → Weigh w (p ∷ ps) (bytes_in w (p ∷ ps))
    by None e h later = absurd (false≢true h)
    by (Some o) e h later = (
      o,
      bytes_in w ps,
      e,
      later,
      sum_by-cons (size_of w) p ps ∙ ap (λ (x : Option Object). option_map_or (λ y. length y.nar) x 0 + bytes_in w ps)
          e,
    )

-- ---- what was deleted

module _ (w : World) (test deleted : Path → Bool)
    (opposite : (p : Path) → IsTrue (has w p) → deleted p ≡ not (test p)) where
  removed : (p : Path) → Contains (filter deleted (all_paths w)) p → IsTrue (has w p) × IsFalse (has (keeping w test) p)
  removed p c =
      let parts = from_filtered deleted (all_paths w) p c in
      let valid = listed_key nat_list_cmp_total w.objects p parts.0 in
      (valid, ap is_some (get-keeping w.objects test p) ∙ by (test p) (sym (opposite p valid) ∙ parts.1))
    where
      by : (b : Bool) → IsTrue (not b) → IsFalse (is_some (cond b (finite.get w.objects p) None))
      by true h = absurd (false≢true h)
      by false h = refl

  goes : (p : Path) → IsTrue (has w p) × IsFalse (has (keeping w test) p) → Contains (filter deleted (all_paths w)) p
  goes p h =
      in_filtered deleted (all_paths w) p (key_listed bytes_antisymmetric w.objects p h.0)
      (opposite p h.0 ∙ by (test p) (sym (ap is_some (get-keeping w.objects test p)) ∙ h.1))
    where
      by : (b : Bool) → IsFalse (is_some (cond b (finite.get w.objects p) None)) → IsTrue (not b)
      by true e = absurd (false≢true (sym e ∙ h.0))
      by false e = refl

  stays : (p : Path) → IsTrue (has (keeping w test) p) → finite.get (keeping w test).objects p ≡ finite.get w.objects p
  stays p h = kept_if w.objects test p (by (test p) refl (sym (ap is_some (get-keeping w.objects test p)) ∙ h))
    where
      by : (b : Bool) → test p ≡ b → IsTrue (is_some (cond b (finite.get w.objects p) None)) → IsTrue (test p)
      by true e k = e
      by false e k = absurd (false≢true k)

  reads : ReportsDeleted w (keeping w test)
      (freed (filter deleted (all_paths w)) (bytes_in w (filter deleted (all_paths w))))
  reads = record {
    removed = filter deleted (all_paths w);
    bytes = bytes_in w (filter deleted (all_paths w));
    reported = refl;
    listed = λ p. (removed p, goes p);
    in_order = IsStrictlySortedBy-filter bytes_cmp deleted (all_paths w) (keys_rise bytes_cmp w.objects);
    weight = weighed w (filter deleted (all_paths w)) (λ p c. (removed p c).0);
    left = stays;
  }

twice_not : (b : Bool) → b ≡ not (not b)
twice_not true = refl
twice_not false = refl

pub collection_reported : (s : Settings) (ignores : Bool) (limit : Option ℕ) → FreesAsReported s (collect ignores limit)
collection_reported s ignores None w c a new h =
    subst (λ x. ReportsDeleted w new x) (sym h.2)
    (subst (λ (u : World). ReportsDeleted w u
    (freed (filter (λ p. not (lives s w p)) (all_paths w))
    (bytes_in w (filter (λ p. not (lives s w p)) (all_paths w))))) (sym h.3)
    (reads w (lives s w) (λ p. not (lives s w p)) (λ p v. refl)))
collection_reported s ignores (Some limit) w c a new h =
    subst (λ x. ReportsDeleted w new x) (sym h.2)
    (subst (λ (u : World). ReportsDeleted w u
    (freed (collected_paths s w (Some limit)) (bytes_in w (collected_paths s w (Some limit))))) (sym h.3)
    (subst (λ (ps : List Path). ReportsDeleted w (keeping w (leaves s w limit)) (freed ps (bytes_in w ps)))
    (sym (reported s w limit)) (reads w (leaves s w limit) (is_consumed s w limit) (deleted_or_stays s w limit))))

pub deletion_reported : (s : Settings) (named : List Path) (ignores : Bool) → FreesAsReported s (delete named ignores)
deletion_reported s named ignores w c a new h =
    subst (λ x. ReportsDeleted w new x) (sym h.2)
    (subst (λ (u : World). ReportsDeleted w u
    (freed (filter (is_deleted_with w named) (all_paths w))
    (bytes_in w (filter (is_deleted_with w named) (all_paths w))))) (sym h.3)
    (reads w (λ p. not (is_deleted_with w named p)) (is_deleted_with w named)
    (λ p v. twice_not (is_deleted_with w named p))))
