-- A step in each of two worlds that differ in runtime labels alone.
use Rattle.std.proofs.Common.{◌≡◌, List, ◌++◌, map, Bool, true, false, not, Some, None, Option, option_map, refl, sym}
use Rattle.std.proofs.Common.{ap, ◌∙◌, IsTrue, subst}
use Rattle.std.specs.Prelude.{Contains, IsFalse, if◌then◌else◌}
use Rattle.std.specs.List.{list_any, find, filter}
use Rattle.std.specs.declared.cmp.Ordering.{Ordering}
use Rattle.std.specs.declared.cmp.Ordering.TheVariants.{Less, Equal, Greater}
use Rattle.std.specs.Ordering.{ordering_reverse}
use Rattle.std.specs.FinMap as finite
use Rattle.paths.specs.Root.{Set, Root, root_cmp, in_order}
use Rattle.live.specs.Graph.{holds}
use Rattle.live.specs.Reach.{reaches}
use Rattle.live.specs.Limited.{limited_paths}
use Rattle.live.proofs.Members.{found, not_found}
use Rattle.live.proofs.Order.{root_total, root_antisymmetric, ordered_member, member_ordered, same_order}
use Rattle.live.proofs.Order.{least_in_order}
use Rattle.model.specs.World.{Path, Objects, World, pair_cmp, has, all_paths, explicit_roots, runtime_roots}
use Rattle.model.specs.World.{temporary_roots, roots_of}
use Rattle.policy.specs.Settings.{Settings}
use Rattle.policy.specs.Caller.{Caller}
use Rattle.policy.specs.Class.{class_of}
use Rattle.policy.specs.declared.kinds.Rule.{Rule}
use Rattle.policy.specs.declared.kinds.Rule.TheVariants.{Connect, Live}
use Rattle.policy.specs.Rules.{is_trusted}
use Rattle.policy.specs.Rules as rules
use Rattle.model.specs.Request.{Request, add_text, add_source, import_object, info, list_live, list_dead, list_roots}
use Rattle.model.specs.Request.{list_roots_of, replace_runtime, collect, report}
use Rattle.model.specs.Reply.{Reply, done, denied, refused, failed, paths, roots, freed, usage}
use Rattle.model.specs.Liveness.{graph_of, keep_of, lives, first_root_of, size_of, bytes_in, usage_of}
use Rattle.model.specs.Seen.{plain, censored, each_once, seen_root, seen}
use Rattle.model.specs.Verdict.{operation_of, named_in, verdict, root_of_first, shown}
use Rattle.model.specs.Adds.{Added, added_text, added_source, added_import}
use Rattle.model.specs.Tests.{tests, refusal, first_failing}
use Rattle.model.specs.Effects.{with_object, with_runtime, effect}
use Rattle.model.specs.Answers.{answer}
use Rattle.model.specs.Step.{Step, IsNoneOrLive}
use Rattle.model.specs.Labels.{TargetsAreIn, DifferInLabels, LookAlike, MirrorsSteps}
use Rattle.model.proofs.Filtered.{in_mapped, from_mapped, in_filtered, from_filtered}
use Rattle.model.proofs.Censored.{below_hidden}
use Rattle.model.proofs.SeenInOrder.{hidden_all, hidden_some}
use Rattle.model.proofs.Unseen.{like, lives_alike}

-- ---- the first of two lists of roots that are alike

module _ (A B : List Root) (p : Root → Bool)
    (alike : (x : Root) → IsTrue (p x) → (y : Root) → censored x ≡ censored y → IsTrue (p y))
    (present : (x : Root) → Contains A x → (y : Root) × Contains B y × (censored x ≡ censored y))
    (back : (x : Root) → Contains B x → (y : Root) × Contains A y × (censored x ≡ censored y)) where
  on_present : (x : Root) → Contains (in_order A) x → (y : Root) × Contains (in_order B) y × (censored x ≡ censored y)
  on_present x c = let y = present x (member_ordered A x c) in (y.0, ordered_member B y.0 y.1, y.2)

  on_back : (x : Root) → Contains (in_order B) x → (y : Root) × Contains (in_order A) y × (censored x ≡ censored y)
  on_back x c = let y = back x (member_ordered B x c) in (y.0, ordered_member A y.0 y.1, y.2)

  one : (x y : Root) → find p (in_order A) ≡ Some x → find p (in_order B) ≡ Some y → (o : Ordering)
      → root_cmp (censored x) (censored y) ≡ o → censored x ≡ censored y
  one x y f g Equal e = root_antisymmetric (censored x) (censored y) e
  one x y f g Less e =
      let at = found p (in_order A) x f in
      let z = on_present x at.0 in
      absurd (least_in_order B p y z.0 g z.1 (alike x at.1 z.0 z.2)
      (below_hidden z.0 y (subst (λ (u : Root). root_cmp u (censored y) ≡ Less) z.2 e)))
  one x y f g Greater e =
      let at = found p (in_order B) y g in
      let z = on_back y at.0 in
      let turned : root_cmp (censored y) (censored x) ≡ Less =
      root_total.antisymm (censored y) (censored x) ∙ ap ordering_reverse e in
      absurd (least_in_order A p x z.0 f z.1 (alike y at.1 z.0 z.2)
      (below_hidden z.0 x (subst (λ (u : Root). root_cmp u (censored x) ≡ Less) z.2 turned)))

  pub first_alike : (a b : Option Root) → find p (in_order A) ≡ a → find p (in_order B) ≡ b
      → option_map censored a ≡ option_map censored b
  first_alike None None f g = refl
  first_alike (Some x) None f g = let at = found p (in_order A) x f in let z =
      on_present x at.0 in absurd (not_found p (in_order B) z.0 g z.1 (alike x at.1 z.0 z.2))
  first_alike None (Some y) f g = let at = found p (in_order B) y g in let z =
      on_back y at.0 in absurd (not_found p (in_order A) z.0 f z.1 (alike y at.1 z.0 z.2))
  first_alike (Some x) (Some y) f g = ap Some (one x y f g (root_cmp (censored x) (censored y)) refl)

-- ---- one world, two sets of runtime roots

module _ (s : Settings) (w : World) (r1 r2 : Set pair_cmp) (present : TargetsAreIn r1 r2)
    (back : TargetsAreIn r2 r1) where
  lives_same : (p : Path) → lives s (with_runtime w r1) p ≡ lives s (with_runtime w r2) p
  lives_same p = lives_alike s w r1 r2 present back p

  verdict_same : (c : Caller) (q : Request) → verdict s (with_runtime w r1) c q ≡ verdict s (with_runtime w r2) c q
  verdict_same c q = λ i. rules.verdict (class_of s c) c (operation_of q) (list_any (λ p. lives_same p i) (named_in q))

  tests_same : (q : Request) → tests s (with_runtime w r1) q ≡ tests s (with_runtime w r2) q
  tests_same (info p) = refl
  tests_same _ = refl

  refusal_same : (q : Request) → refusal s (with_runtime w r1) q ≡ refusal s (with_runtime w r2) q
  refusal_same q = ap first_failing (tests_same q)

  reaching_alike : (p : Path) (x : Root) → IsTrue (reaches (keep_of s) (graph_of w) x.target p) → (y : Root)
      → censored x ≡ censored y → IsTrue (reaches (keep_of s) (graph_of w) y.target p)
  reaching_alike p x t y e = ap (λ (u : Root). reaches (keep_of s) (graph_of w) u.target p) (sym e) ∙ t

  first_same : (p : Path) → option_map censored (first_root_of s (with_runtime w r1) p)
      ≡ option_map censored (first_root_of s (with_runtime w r2) p)
  first_same p =
      first_alike (roots_of (with_runtime w r1)) (roots_of (with_runtime w r2))
      (λ (r : Root). reaches (keep_of s) (graph_of w) r.target p)
      (reaching_alike p) (like w r1 r2 present) (like w r2 r1 back) _ _ refl refl

  -- ---- what is seen of roots

  hidden_member : (r1 r2 : Set pair_cmp) → TargetsAreIn r1 r2 → (b : Root)
      → Contains (map censored (roots_of (with_runtime w r1))) b
      → Contains (map censored (roots_of (with_runtime w r2))) b
  hidden_member r1 r2 in_ b c =
      let x = from_mapped censored (roots_of (with_runtime w r1)) b c in
      let y = like w r1 r2 in_ x.0 x.1 in
      subst (λ (z : Root). Contains (map censored (roots_of (with_runtime w r2))) z) (sym y.2 ∙ x.2)
      (in_mapped censored (roots_of (with_runtime w r2)) y.0 y.1)

  reaching_member : (r1 r2 : Set pair_cmp) → TargetsAreIn r1 r2 → (p : Path) (b : Root)
      → Contains (map censored (filter (λ (r : Root). reaches (keep_of s) (graph_of w) r.target p)
      (roots_of (with_runtime w r1)))) b
      → Contains (map censored (filter (λ (r : Root). reaches (keep_of s) (graph_of w) r.target p)
      (roots_of (with_runtime w r2)))) b
  reaching_member r1 r2 in_ p b c =
      let test = λ (r : Root). reaches (keep_of s) (graph_of w) r.target p in
      let x = from_mapped censored (filter test (roots_of (with_runtime w r1))) b c in
      let parts = from_filtered test (roots_of (with_runtime w r1)) x.0 x.1 in
      let y = like w r1 r2 in_ x.0 parts.0 in
      subst (λ (z : Root). Contains (map censored (filter test (roots_of (with_runtime w r2)))) z) (sym y.2 ∙ x.2)
      (in_mapped censored (filter test (roots_of (with_runtime w r2))) y.0
      (in_filtered test (roots_of (with_runtime w r2)) y.0 y.1 (reaching_alike p x.0 parts.1 y.0 y.2)))

  seen_same : (c : Caller) → IsFalse (is_trusted (class_of s c)) → (xs ys : List Root)
      → each_once (map plain (map censored xs)) ≡ each_once (map plain (map censored ys))
      → seen (class_of s c) xs ≡ seen (class_of s c) ys
  seen_same c other xs ys e =
      ap (λ b. if b then map plain xs else each_once (map plain (map censored xs))) other
      ∙ e
      ∙ sym (ap (λ b. if b then map plain ys else each_once (map plain (map censored ys))) other)

  all_seen : (c : Caller) → IsFalse (is_trusted (class_of s c))
      → seen (class_of s c) (roots_of (with_runtime w r1)) ≡ seen (class_of s c) (roots_of (with_runtime w r2))
  all_seen c other = seen_same c other (roots_of (with_runtime w r1)) (roots_of (with_runtime w r2)) (
      hidden_all (explicit_roots w ++ runtime_roots (with_runtime w r1) ++ temporary_roots w)
      ∙ ap (λ (zs : List Root). each_once (map plain zs))
      (same_order (map censored (roots_of (with_runtime w r1))) (map censored (roots_of (with_runtime w r2)))
      (hidden_member r1 r2 present) (hidden_member r2 r1 back))
      ∙ sym (hidden_all (explicit_roots w ++ runtime_roots (with_runtime w r2) ++ temporary_roots w)))

  some_seen : (c : Caller) → IsFalse (is_trusted (class_of s c)) → (p : Path)
      → seen (class_of s c) (filter (λ (r : Root). reaches (keep_of s) (graph_of w) r.target p)
      (roots_of (with_runtime w r1)))
      ≡ seen (class_of s c) (filter (λ (r : Root). reaches (keep_of s) (graph_of w) r.target p)
      (roots_of (with_runtime w r2)))
  some_seen c other p =
      let test = λ (r : Root). reaches (keep_of s) (graph_of w) r.target p in
      seen_same c other (filter test (roots_of (with_runtime w r1))) (filter test (roots_of (with_runtime w r2))) (
      hidden_some test (explicit_roots w ++ runtime_roots (with_runtime w r1) ++ temporary_roots w)
      ∙ ap (λ (zs : List Root). each_once (map plain zs))
      (same_order (map censored (filter test (roots_of (with_runtime w r1))))
      (map censored (filter test (roots_of (with_runtime w r2)))) (reaching_member r1 r2 present p)
      (reaching_member r2 r1 back p))
      ∙ sym (hidden_some test (explicit_roots w ++ runtime_roots (with_runtime w r2) ++ temporary_roots w)))

  -- ---- answers, denials, effects

  answer_same : (c : Caller) → IsFalse (is_trusted (class_of s c)) → (q : Request)
      → answer s (with_runtime w r1) c q ≡ answer s (with_runtime w r2) c q
  answer_same c other list_live = λ i. paths (filter (λ p. lives_same p i) (all_paths w))
  answer_same c other list_dead = λ i. paths (filter (λ p. not (lives_same p i)) (all_paths w))
  answer_same c other (collect ignores (Some limit)) =
      λ i. freed (limited_paths (graph_of w) (λ p. not (lives_same p i)) (size_of w) limit)
      (bytes_in w (limited_paths (graph_of w) (λ p. not (lives_same p i)) (size_of w) limit))
  answer_same c other (collect ignores None) =
      λ i. freed (filter (λ p. not (lives_same p i)) (all_paths w))
      (bytes_in w (filter (λ p. not (lives_same p i)) (all_paths w)))
  answer_same c other report =
      λ i. usage (usage_of w (filter (λ p. lives_same p i) (all_paths w)))
      (usage_of w (filter (λ p. not (lives_same p i)) (all_paths w))) (usage_of w (all_paths w))
  answer_same c other list_roots = ap roots (all_seen c other)
  answer_same c other (list_roots_of p) = ap roots (some_seen c other p)
  answer_same c other _ = refl

  root_seen_same : (c : Caller) → IsFalse (is_trusted (class_of s c)) → (a b : Option Root)
      → option_map censored a ≡ option_map censored b
      → option_map (seen_root (class_of s c)) a ≡ option_map (seen_root (class_of s c)) b
  root_seen_same c other a b e = hide a ∙ ap (option_map plain) e ∙ sym (hide b)
    where
      hide : (o : Option Root) → option_map (seen_root (class_of s c)) o ≡ option_map plain (option_map censored o)
      hide None = refl
      hide (Some r) = ap (λ t. Some (plain (if t then r else censored r))) other

  named_same : (o : Option Path)
      → option_map censored (root_of_first s (with_runtime w r1) o)
      ≡ option_map censored (root_of_first s (with_runtime w r2) o)
  named_same None = refl
  named_same (Some p) = first_same p

  shown_same : (c : Caller) → IsFalse (is_trusted (class_of s c)) → (q : Request) (rule : Rule)
      → shown s (with_runtime w r1) c q rule ≡ shown s (with_runtime w r2) c q rule
  shown_same c other q Live =
      ap (λ (o : Option Path). option_map (seen_root (class_of s c)) (root_of_first s (with_runtime w r1) o))
      (λ i. find (λ p. lives_same p i) (named_in q))
      ∙ root_seen_same c other _ _ (named_same (find (lives s (with_runtime w r2)) (named_in q)))
  shown_same c other q Connect = refl
  shown_same c other q _ = refl

  itself : DifferInLabels (with_runtime w r1) (with_runtime w r2)
  itself =
      record {
        objects = refl;
        permanent = refl;
        user_roots = refl;
        profiles = refl;
        temporary = refl;
        present = present;
        back = back;
      }

  with_objects : (a b : Objects) → a ≡ b
      → DifferInLabels (record w { objects = a; runtime = r1 }) (record w { objects = b; runtime = r2 })
  with_objects a b e =
      record {
        objects = e;
        permanent = refl;
        user_roots = refl;
        profiles = refl;
        temporary = refl;
        present = present;
        back = back;
      }

  after_add : (a : Added) → DifferInLabels (with_object (with_runtime w r1) a) (with_object (with_runtime w r2) a)
  after_add a = by (has w a.path)
    where
      by : (b : Bool) → DifferInLabels
          (if b then with_runtime w r1
          else record w { objects = finite.insert w.objects a.path a.object; runtime = r1 })
          (if b then with_runtime w r2
          else record w { objects = finite.insert w.objects a.path a.object; runtime = r2 })
      by true = itself
      by false = with_objects _ _ refl

  effect_same : (q : Request) → DifferInLabels (effect s (with_runtime w r1) q) (effect s (with_runtime w r2) q)
  effect_same (add_text name refs contents) = after_add (added_text s.store_dir name refs contents)
  effect_same (add_source name refs b) = after_add (added_source s.store_dir name refs b)
  effect_same (import_object i) = after_add (added_import s.store_dir i)
  effect_same (collect ignores (Some limit)) =
      with_objects _ _ (λ i. finite.retain_keys w.objects
      (λ p. not (holds (limited_paths (graph_of w) (λ x. not (lives_same x i)) (size_of w) limit) p)))
  effect_same (collect ignores None) = with_objects _ _ (λ i. finite.retain_keys w.objects (λ p. lives_same p i))
  effect_same (replace_runtime pairs) =
      record {
        objects = refl;
        permanent = refl;
        user_roots = refl;
        profiles = refl;
        temporary = refl;
        present = λ l t h. (l, h);
        back = λ l t h. (l, h);
      }
  effect_same _ =
      record {
        objects = refl;
        permanent = refl;
        user_roots = refl;
        profiles = refl;
        temporary = refl;
        present = present;
        back = back;
      }

  here : (new : World) → new ≡ with_runtime w r1 → DifferInLabels new (with_runtime w r2)
  here new e = subst (λ (u : World). DifferInLabels u (with_runtime w r2)) (sym e) itself

  pub mirrored : (c : Caller) (q : Request) (reply : Reply) (new : World) → Step s (with_runtime w r1) c q reply new
      → (other : Reply) × (next : World) × Step s (with_runtime w r2) c q other next × LookAlike s c reply other
      × DifferInLabels new next
  mirrored c q (denied r root) new h = (
    denied r (shown s (with_runtime w r2) c q r),
    with_runtime w r2,
    (sym (verdict_same c q) ∙ h.0, refl, refl),
    record { same = λ other. ap (denied r) (h.1 ∙ shown_same c other q r); failures = tt },
    here new h.2,
  )
  mirrored c q (refused r) new h = (
    refused r,
    with_runtime w r2,
    (sym (verdict_same c q) ∙ h.0, sym (refusal_same q) ∙ h.1, refl),
    record { same = λ other. refl; failures = tt },
    here new h.2,
  )
  mirrored c q (failed f) new h = (
    failed f,
    with_runtime w r2,
    (subst IsNoneOrLive (verdict_same c q) h.0, refl),
    record { same = λ other. refl; failures = refl },
    here new h.1,
  )
  mirrored c q (done a) new h = (
    done (answer s (with_runtime w r2) c q),
    effect s (with_runtime w r2) q,
    (sym (verdict_same c q) ∙ h.0, sym (refusal_same q) ∙ h.1, refl, refl),
    record { same = λ other. ap done (h.2 ∙ answer_same c other q); failures = tt },
    subst (λ (u : World). DifferInLabels u (effect s (with_runtime w r2) q)) (sym h.3) (effect_same q),
  )

same_world : (w v : World) → DifferInLabels w v → with_runtime w v.runtime ≡ v
same_world w v d =
    λ i. record {
      objects = d.objects i;
      permanent = d.permanent i;
      user_roots = d.user_roots i;
      profiles = d.profiles i;
      runtime = v.runtime;
      temporary = d.temporary i;
    }

pub mirrors_steps : MirrorsSteps
mirrors_steps s w v d c q reply new h =
    let m = mirrored s w w.runtime v.runtime d.present d.back c q reply new h in
    (m.0, m.1, subst (λ (u : World). Step s u c q m.0 m.1) (same_world w v d) m.2, m.3, m.4)
