-- What is live stays unchanged over a step, and so a root keeps what it reaches.
use Rattle.std.proofs.Common.{◌≡◌, List, [], ◌∷◌, Bool, true, false, not, ◌&&◌, cond, Some, None, option_map, refl, sym}
use Rattle.std.proofs.Common.{ap, arith, ◌∙◌, IsTrue, subst, inl, inr, ◌⊎◌}
use Rattle.std.specs.Prelude.{Contains, is_some, if◌then◌else◌}
use Rattle.std.specs.List.{list_any}
use Rattle.std.specs.Cmp.Lexicographic.{nat_list_cmp_total}
use Rattle.std.specs.FinMap as finite
use Rattle.std.proofs.lemmas.Bool.{cases_Bool, false≢true, not_from_false, false_from_ne_true}
use Rattle.paths.specs.Root.{Root}
use Rattle.live.specs.Graph.{same, holds, kept_if_valid, is_valid, is_edge}
use Rattle.live.specs.Reach.{Leads, Reaches}
use Rattle.live.proofs.Members.{any_from, not_found}
use Rattle.live.proofs.Reach.{goes_on, end_valid, same_is, reach_kept}
use Rattle.live.proofs.Live.{live_decided, closure_decided}
use Rattle.model.specs.World.{Path, World, has, roots_of}
use Rattle.policy.specs.Settings.{Settings}
use Rattle.policy.specs.Caller.{Caller}
use Rattle.policy.specs.Class.{class_of}
use Rattle.policy.specs.declared.kinds.Rule.{Rule}
use Rattle.policy.specs.declared.kinds.Rule.TheVariants.{Live}
use Rattle.policy.specs.Rules.{rules, allows}
use Rattle.model.specs.Request.{Request, add_text, add_source, import_object, collect, delete}
use Rattle.model.specs.Reply.{Reply, done, denied, refused, failed}
use Rattle.model.specs.Liveness.{links_of, graph_of, keep_of, lives, is_deleted_with}
use Rattle.model.specs.Verdict.{operation_of, verdict}
use Rattle.model.specs.Adds.{Added, added_text, added_source, added_import}
use Rattle.model.specs.Effects.{with_object, effect}
use Rattle.model.specs.Step.{Step}
use Rattle.model.specs.Pinning.{KeepsReached, LeadsOn, Pins, PinsOverRuns, RemainsThroughout}
use Rattle.model.proofs.Worlds.{get-graph, live_of, live_has, kept_if}
use Rattle.model.proofs.Limited.{leaves, live_left}

-- the world keeps the live objects
abbrev pub KeepsLive : Settings → World → World → Type 0
KeepsLive s w new = (p : Path) → IsTrue (lives s w p) → finite.get new.objects p ≡ finite.get w.objects p

-- ---- an add

pub kept_by_add : (w : World) (a : Added) (p : Path) → IsTrue (has w p)
    → finite.get (with_object w a).objects p ≡ finite.get w.objects p
kept_by_add w a p h = by (has w a.path) refl
  where
    new_key : (b : Bool) → same p a.path ≡ b → has w a.path ≡ false
        → cond b (Some a.object) (finite.get w.objects p) ≡ finite.get w.objects p
    new_key true e n = absurd (false≢true (sym n ∙ ap (has w) (sym (same_is p a.path e)) ∙ h))
    new_key false e n = refl

    by : (b : Bool) → has w a.path ≡ b
        → finite.get (if b then w else record w { objects = finite.insert w.objects a.path a.object }).objects p
        ≡ finite.get w.objects p
    by true e = refl
    by false e = finite.get-insert nat_list_cmp_total w.objects a.path a.object p ∙ new_key (same p a.path) refl e

-- ---- a deletion

-- a live path that refers to a named one makes that live
pub stays : (s : Settings) (w : World) (named : List Path) (p : Path) → list_any (lives s w) named ≡ false
    → IsTrue (lives s w p) → is_deleted_with w named p ≡ false
stays s w named p dead h = false_from_ne_true (is_deleted_with w named p) deleted
  where
    deleted : IsTrue (is_deleted_with w named p) → ⊥
    deleted d =
        let target = (closure_decided (graph_of w) named p).0 d in
        let l = (live_decided (keep_of s) (graph_of w) (roots_of w) p).0 h in
        let on =
        goes_on (keep_of s) (graph_of w) l.root.target p target.target l.reaches
        (reach_kept (keep_of s) (graph_of w) p target.target target.reaches) in
        false≢true (sym dead ∙ any_from (lives s w) named target.target target.is_named
        (live_of s w l.root target.target l.listed on))

live_listed : Contains rules Live
live_listed = (6, omega arith, refl)

-- a deletion that every rule allows names no live path
pub nothing_live : (s : Settings) (w : World) (c : Caller) (named : List Path) (ignores : Bool)
    → verdict s w c (delete named ignores) ≡ None → list_any (lives s w) named ≡ false
nothing_live s w c named ignores v = by (cases_Bool (list_any (lives s w) named))
  where
    by : (list_any (lives s w) named ≡ true) ⊎ (list_any (lives s w) named ≡ false) → list_any (lives s w) named ≡ false
    by (inl e) =
        absurd (not_found (λ (rule : Rule). not
        (allows (class_of s c) c (operation_of (delete named ignores)) (list_any (lives s w) named) rule)) rules
        Live v
        live_listed
        (ap (λ b. not (not (b && true))) e))
    by (inr e) = e

-- ---- a step

done_keeps : (s : Settings) (w : World) (c : Caller) (q : Request) → verdict s w c q ≡ None
    → KeepsLive s w (effect s w q)
done_keeps s w c (add_text name refs contents) v p h =
    kept_by_add w (added_text s.store_dir name refs contents) p (live_has s w p h)
done_keeps s w c (add_source name refs b) v p h =
    kept_by_add w (added_source s.store_dir name refs b) p (live_has s w p h)
done_keeps s w c (import_object i) v p h = kept_by_add w (added_import s.store_dir i) p (live_has s w p h)
done_keeps s w c (collect ignores None) v p h = kept_if w.objects (lives s w) p h
done_keeps s w c (collect ignores (Some limit)) v p h = kept_if w.objects (leaves s w limit) p (live_left s w limit p h)
done_keeps s w c (delete named ignores) v p h =
    kept_if w.objects (λ x. not (is_deleted_with w named x)) p
    (not_from_false (is_deleted_with w named p) (stays s w named p (nothing_live s w c named ignores v) h))
done_keeps s w c _ v p h = refl

step_keeps : (s : Settings) (w : World) (c : Caller) (q : Request) (reply : Reply) (new : World)
    → Step s w c q reply new → KeepsLive s w new
step_keeps s w c q (done a) new h p l = ap (λ (x : World). finite.get x.objects p) h.3 ∙ done_keeps s w c q h.0 p l
step_keeps s w c q (denied r root) new h p l = ap (λ (x : World). finite.get x.objects p) h.2
step_keeps s w c q (refused r) new h p l = ap (λ (x : World). finite.get x.objects p) h.2
step_keeps s w c q (failed f) new h p l = ap (λ (x : World). finite.get x.objects p) h.1

-- ---- reach after it

module _ (s : Settings) (w new : World) (keeps : KeepsLive s w new) (r : Root) (listed : Contains (roots_of w) r) where
  same_links : (p : Path) → IsTrue (lives s w p) → finite.get (graph_of new) p ≡ finite.get (graph_of w) p
  same_links p l = get-graph new p ∙ ap (option_map links_of) (keeps p l) ∙ sym (get-graph w p)

  edge_remains : (a b : Path) → IsTrue (lives s w a) → IsTrue (lives s w b)
      → is_edge (keep_of s) (graph_of new) a b ≡ is_edge (keep_of s) (graph_of w) a b
  edge_remains a b la lb = λ i. is_some (same_links b lb i) && holds (kept_if_valid (keep_of s) (same_links a la i)) b

  one_edge : (a b : Path) → IsTrue (is_valid (graph_of w) a) → IsTrue (is_edge (keep_of s) (graph_of w) a b)
      → Reaches (keep_of s) (graph_of w) a b
  one_edge a b v e = record { valid = v; steps = b ∷ []; leads = (e, refl) }

  leads_remains : (a z : Path) (bs : List Path) → Reaches (keep_of s) (graph_of w) r.target a
      → Leads (keep_of s) (graph_of w) a bs z → Leads (keep_of s) (graph_of new) a bs z
  leads_remains a z [] before h = h
  leads_remains a z (b ∷ bs) before h =
      let valid : IsTrue (is_valid (graph_of w) a) = end_valid (keep_of s) (graph_of w) r.target a before in
      let after = goes_on (keep_of s) (graph_of w) r.target a b before (one_edge a b valid h.0) in (
        edge_remains a b (live_of s w r a listed before) (live_of s w r b listed after) ∙ h.0,
        leads_remains b z bs after h.1,
      )

  itself : (a : Path) → IsTrue (is_valid (graph_of w) a) → Reaches (keep_of s) (graph_of w) a a
  itself a v = record { valid = v; steps = []; leads = refl }

  pub reach_stays : (p : Path) → Reaches (keep_of s) (graph_of w) r.target p
      → Reaches (keep_of s) (graph_of new) r.target p
  reach_stays p h =
      let first = itself r.target h.valid in
      record {
        valid = ap is_some (same_links r.target (live_of s w r r.target listed first)) ∙ h.valid;
        steps = h.steps;
        leads = leads_remains r.target p h.steps first h.leads;
      }

pub pins : Pins
pins s w c q reply new h r listed p reach =
    let keeps = step_keeps s w c q reply new h in
    (reach_stays s w new keeps r listed p reach, keeps p (live_of s w r p listed reach))

-- what is kept over one part of a run and over the next is kept over both
pub kept_on : (s : Settings) (r : Root) (w mid new : World) → KeepsReached s r w mid → KeepsReached s r mid new
    → KeepsReached s r w new
kept_on s r w mid new first rest p reach =
    let here = first p reach in
    let present = rest p here.0 in
    (present.0, present.1 ∙ here.1)

-- and over none
pub kept_here : (s : Settings) (r : Root) (w new : World) → new ≡ w → KeepsReached s r w new
kept_here s r w new e p reach = (
  subst (λ x. Reaches (keep_of s) (graph_of x) r.target p) (sym e) reach,
  ap (λ (x : World). finite.get x.objects p) e,
)

pub leads_on : LeadsOn
leads_on s w c q (done a) new h = h.3
leads_on s w c q (denied rule root) new h = h.2
leads_on s w c q (refused x) new h = h.2
leads_on s w c q (failed f) new h = h.1

pub pins_over_runs : PinsOverRuns
pins_over_runs s w new r [] [] run stays = kept_here s r w new run
pins_over_runs s w new r (call ∷ calls) (reply ∷ replies) run stays =
    let on = leads_on s w call.0 call.1 reply run.0 run.1 in
    kept_on s r w run.0 new (pins s w call.0 call.1 reply run.0 run.1 r stays.0)
    (pins_over_runs s run.0 new r calls replies run.2
    (subst (λ (v : World). RemainsThroughout s v r calls replies) (sym on) stays.1))
pins_over_runs s w new r [] (reply ∷ replies) run stays = absurd run
pins_over_runs s w new r (call ∷ calls) [] run stays = absurd run
