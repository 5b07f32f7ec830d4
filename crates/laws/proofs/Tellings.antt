-- What answers report that only report.
use Rattle.std.proofs.Common.{◌≡◌, ◌↔◌, ℕ, List, [], ◌++◌, length, not, Some, None, Option, refl, sym, ap, ◌∙◌, IsTrue}
use Rattle.std.proofs.Common.{subst}
use Rattle.std.specs.Prelude.{is_some, IsFalse, Contains}
use Rattle.std.specs.List.{filter}
use Rattle.std.specs.List.Sorted.{IsStrictlySortedBy}
use Rattle.std.specs.Cmp.Lexicographic.{nat_list_cmp_total}
use Rattle.std.specs.FinMap as finite
use Rattle.std.proofs.lemmas.Bool.{false≢true, not-true}
use Rattle.std.proofs.lemmas.List.Kept.{IsStrictlySortedBy-filter}
use Rattle.std.proofs.lemmas.Option.{same_Some}
use Rattle.sha2.specs.Sha256.{sha256}
use Rattle.paths.specs.Root.{bytes_cmp, Root, root_cmp}
use Rattle.live.specs.Reach.{reaches}
use Rattle.live.proofs.Reach.{decided}
use Rattle.policy.specs.Settings.{Settings}
use Rattle.model.specs.World.{Path, Object, World, has, all_paths, explicit_roots, runtime_roots, temporary_roots}
use Rattle.model.specs.World.{roots_of}
use Rattle.model.specs.Request.{Imported, Request, add_text, add_source, import_object}
use Rattle.model.specs.Reply.{Answer, record_of, archive_of, usage}
use Rattle.model.specs.Liveness.{graph_of, keep_of, lives, live_paths, dead_paths, bytes_in, usage_of}
use Rattle.model.specs.Answers.{info_of, record_at, archive_at}
use Rattle.laws.specs.Changes.{Submitted, IsAsSubmitted, AddsExactly, with_text, with_source, with_import}
use Rattle.laws.specs.ReadOnly.{ReportsObject, RecordsAreExact, ArchivesAreTheObjects, ReportsSubmitted, RecordsAdds}
use Rattle.laws.specs.ReadOnly.{ListingsAreExact, RootListingsAreExact, ReportsAreExact}
use Rattle.model.proofs.MapMembers.{bytes_antisymmetric, key_listed, listed_key}
use Rattle.model.proofs.Filtered.{in_filtered, from_filtered}
use Rattle.model.proofs.Worlds.{live_has}
use Rattle.laws.proofs.Freed.{keys_rise, weighed}
use Rattle.laws.proofs.Adding.{text_exact, source_exact, import_exact}
use Rattle.laws.proofs.LabelsAndOrder.{rise}
use Rattle.model.proofs.Passed.{met, passed}
use Rattle.laws.proofs.Usages.{adds_up}

-- ---- objects

reads : (p : Path) (o : Object) → ReportsObject p o (record_of (info_of p o))
reads p o = record {
  record_ = info_of p o;
  reported = refl;
  path = refl;
  hash = refl;
  size = refl;
  references = λ r. (listed_key nat_list_cmp_total o.references r, key_listed bytes_antisymmetric o.references r);
  in_order = keys_rise bytes_cmp o.references;
  deriver = refl;
  ca = refl;
}

pub records_report : RecordsAreExact
records_report s w c p a new h = by (finite.get w.objects p) refl (met (has w p) _ (passed _ [] h.1).0)
  where
    by : (o : Option Object) → finite.get w.objects p ≡ o → IsTrue (is_some o)
        → (x : Object) × (finite.get w.objects p ≡ Some x) × ReportsObject p x a
    by None e v = absurd (false≢true v)
    by (Some o) e v = (o, e, subst (λ x. ReportsObject p o x) (sym (h.2 ∙ ap (record_at p) e)) (reads p o))

pub archives_are_the_objects : ArchivesAreTheObjects
archives_are_the_objects s w c p a new h = by (finite.get w.objects p) refl (met (has w p) _ (passed _ [] h.1).0)
  where
    by : (o : Option Object) → finite.get w.objects p ≡ o → IsTrue (is_some o)
        → (x : Object) × (finite.get w.objects p ≡ Some x) × (a ≡ archive_of x.nar)
    by None e v = absurd (false≢true v)
    by (Some o) e v = (o, e, h.2 ∙ ap (λ x. archive_of (archive_at x)) e)

submitted : (dir : List ℕ) (h : Submitted) (o : Object) (a : Answer) → IsAsSubmitted dir h o → ReportsObject h.path o a
    → ReportsSubmitted h a
submitted dir h o a is t = record {
  record_ = t.record_;
  reported = t.reported;
  path = t.path;
  hash = t.hash ∙ ap sha256 is.nar;
  size = t.size ∙ ap length is.nar;
  references =
      λ r. ((λ c. (is.references r).0 ((t.references r).0 c)), (λ c. (t.references r).1 ((is.references r).1 c)));
  in_order = t.in_order;
  deriver = t.deriver ∙ is.deriver;
  ca = t.ca ∙ is.ca;
}

pub recorded : (s : Settings) (q : Request) (h : Submitted) → AddsExactly s q h → RecordsAdds s q h
recorded s q h adds w c reply mid step d fresh next a last reported =
    let gained = (adds w c reply mid step d).1.fresh fresh in
    let x = records_report s mid next h.path a last reported in
    let one : x.0 ≡ gained.0 = same_Some x.0 gained.0 (sym x.1 ∙ gained.1) in
    submitted s.store_dir h gained.0 a gained.2 (subst (λ (o : Object). ReportsObject h.path o a) one x.2)

pub text_recorded : (s : Settings) (name : List ℕ) (refs : List Path) (contents : List ℕ)
    → RecordsAdds s (add_text name refs contents) (with_text s.store_dir name refs contents)
text_recorded s name refs contents =
    recorded s (add_text name refs contents) (with_text s.store_dir name refs contents)
    (text_exact s name refs contents)

pub source_recorded : (s : Settings) (name : List ℕ) (refs : List Path) (nar : List ℕ)
    → RecordsAdds s (add_source name refs nar) (with_source s.store_dir name refs nar)
source_recorded s name refs nar =
    recorded s (add_source name refs nar) (with_source s.store_dir name refs nar) (source_exact s name refs nar)

pub import_recorded : (s : Settings) (i : Imported) → RecordsAdds s (import_object i) (with_import i)
import_recorded s i = recorded s (import_object i) (with_import i) (import_exact s i)

-- ---- listings

module _ (s : Settings) (w : World) where
  valid_listed : (p : Path) → Contains (all_paths w) p ↔ IsTrue (has w p)
  valid_listed p = (listed_key nat_list_cmp_total w.objects p, key_listed bytes_antisymmetric w.objects p)

  live_listed : (p : Path) → Contains (live_paths s w) p ↔ IsTrue (lives s w p)
  live_listed p = (
    (λ k. (from_filtered (lives s w) (all_paths w) p k).1),
    (λ h. in_filtered (lives s w) (all_paths w) p (key_listed bytes_antisymmetric w.objects p (live_has s w p h)) h),
  )

  dead_listed : (p : Path) → Contains (dead_paths s w) p ↔ (IsTrue (has w p) × IsFalse (lives s w p))
  dead_listed p = (
    (λ k. let parts = from_filtered (λ x. not (lives s w x)) (all_paths w) p k in
        (listed_key nat_list_cmp_total w.objects p parts.0, not-true (lives s w p) parts.1)),
    (λ h. in_filtered (λ x. not (lives s w x)) (all_paths w) p (key_listed bytes_antisymmetric w.objects p h.0)
        (ap not h.1)),
  )

pub listings_report : ListingsAreExact
listings_report s w c = record {
  all =
      λ a new h. record {
        listed = all_paths w;
        reported = h.2;
        exactly = valid_listed s w;
        in_order = keys_rise bytes_cmp w.objects;
      };
  live =
      λ a new h. record {
        listed = live_paths s w;
        reported = h.2;
        exactly = live_listed s w;
        in_order = IsStrictlySortedBy-filter bytes_cmp (lives s w) (all_paths w) (keys_rise bytes_cmp w.objects);
      };
  dead =
      λ a new h. record {
        listed = dead_paths s w;
        reported = h.2;
        exactly = dead_listed s w;
        in_order = IsStrictlySortedBy-filter bytes_cmp (λ p. not (lives s w p)) (all_paths w)
            (keys_rise bytes_cmp w.objects);
      };
}

in_rise : (w : World) → IsStrictlySortedBy root_cmp (roots_of w)
in_rise w = rise (explicit_roots w ++ runtime_roots w ++ temporary_roots w)

pub root_listings_report : RootListingsAreExact
root_listings_report s w c = record {
  all =
      λ a new h. record {
        shown = roots_of w;
        reported = h.2;
        exactly = λ r. ((λ k. k), (λ k. k));
        in_order = in_rise w;
      };
  of = λ p a new h. record {
    shown = filter (λ r. reaches (keep_of s) (graph_of w) r.target p) (roots_of w);
    reported = h.2;
    exactly = λ r. (
      (λ k. let parts = from_filtered (λ (x : Root). reaches (keep_of s) (graph_of w) x.target p) (roots_of w) r k in
          (parts.0, (decided (keep_of s) (graph_of w) r.target p).0 parts.1)),
      (λ k. in_filtered (λ (x : Root). reaches (keep_of s) (graph_of w) x.target p) (roots_of w) r k.0
          ((decided (keep_of s) (graph_of w) r.target p).1 k.1)),
    );
    in_order =
        IsStrictlySortedBy-filter root_cmp (λ (x : Root). reaches (keep_of s) (graph_of w) x.target p) (roots_of w)
        (in_rise w);
  };
}

-- ---- the report

pub reports_agree : ReportsAreExact
reports_agree s w c a new h =
    let sums = adds_up s w in
    record {
      live = live_paths s w;
      dead = dead_paths s w;
      live_bytes = bytes_in w (live_paths s w);
      dead_bytes = bytes_in w (dead_paths s w);
      reported =
          h.2 ∙ (λ i. usage (usage_of w (live_paths s w)) (usage_of w (dead_paths s w))
          (record { paths = sym sums.paths i; bytes = sym sums.bytes i }));
      is_live = live_listed s w;
      is_dead = dead_listed s w;
      live_weight = weighed w (live_paths s w) (λ p k. live_has s w p ((live_listed s w p).0 k));
      dead_weight = weighed w (dead_paths s w) (λ p k. ((dead_listed s w p).0 k).0);
    }
