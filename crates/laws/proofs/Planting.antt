-- How objects come over runs.
use Rattle.std.proofs.Common.{◌≡◌, List, [], ◌∷◌, Bool, true, false, not, Some, None, Option, refl, sym, ap, ◌∙◌}
use Rattle.std.proofs.Common.{IsTrue, subst, inl, inr}
use Rattle.std.specs.Prelude.{is_some, IsFalse, Contains, if◌then◌else◌}
use Rattle.std.specs.Cmp.Lexicographic.{nat_list_cmp_total}
use Rattle.std.specs.FinMap as finite
use Rattle.std.proofs.lemmas.Bool.{cases_Bool, false≢true}
use Rattle.paths.specs.ContentAddress.{ContentAddress}
use Rattle.live.proofs.Members.{at_head, behind}
use Rattle.policy.specs.Settings.{Settings}
use Rattle.policy.specs.Caller.{Caller}
use Rattle.policy.specs.Class.{class_of}
use Rattle.policy.specs.Rules.{is_trusted}
use Rattle.model.specs.World.{Path, Object, World, has}
use Rattle.model.specs.Sound.{IsSound}
use Rattle.model.specs.Request.{Imported, Request, add_text, add_source, import_object, collect, delete}
use Rattle.model.specs.Reply.{Reply, denied, refused, failed, done}
use Rattle.model.specs.Liveness.{lives, is_deleted_with}
use Rattle.model.specs.Verdict.{verdict}
use Rattle.model.specs.Adds.{Added, added_text, added_source, added_import}
use Rattle.model.specs.Effects.{with_object, effect}
use Rattle.model.specs.Step.{Step}
use Rattle.model.specs.Soundness.{IsWellFormed}
use Rattle.laws.specs.Changes.{with_import, IsAsSubmitted}
use Rattle.laws.specs.Planting.{Came, existed, addressed, imported, NobodyPlantsInRuns}
use Rattle.model.proofs.MapMembers.{bytes_antisymmetric, inserted_entry}
use Rattle.model.proofs.Limited.{leaves}
use Rattle.laws.proofs.Adding.{import_as_passed}
use Rattle.laws.proofs.SoundSteps.{keeps_sound}
use Rattle.laws.proofs.Reliance.{nothing_replaced, added_present, fresh_kept, has_address}

-- what is new at a path where something is added is there
added_where : (w : World) (a : Added) (p : Path) (o : Object) → IsFalse (has w p)
    → finite.get (with_object w a).objects p ≡ Some o → p ≡ a.path
added_where w a p o fresh e = by (has w a.path) e
  where
    by : (b : Bool) → finite.get (if b then w
        else record w { objects = finite.insert w.objects a.path a.object }).objects p ≡ Some o → p ≡ a.path
    by true f = absurd (false≢true (sym fresh ∙ ap is_some f))
    by false f =
        elim (inserted_entry nat_list_cmp_total bytes_antisymmetric w.objects a.path a.object p o f) as (λ _. p
        ≡ a.path) [
          | inl is ↦ is.0
          | inr old ↦ absurd (false≢true (sym fresh ∙ ap is_some old))
        ]

-- a new object without an address was imported
only_imported : (s : Settings) (w : World) (q : Request) (p : Path) (o : Object) → IsFalse (has w p)
    → finite.get (effect s w q).objects p ≡ Some o → o.ca ≡ None
    → (i : Imported) × (q ≡ import_object i) × (i.path ≡ p) × IsAsSubmitted s.store_dir (with_import i) o
only_imported s w (add_text name refs contents) p o fresh e none =
    absurd (false≢true (sym (ap (λ (x : Object). is_some x.ca)
    (added_present w (added_text s.store_dir name refs contents) p o fresh e) ∙ ap is_some none)))
only_imported s w (add_source name refs b) p o fresh e none =
    absurd (false≢true (sym (ap (λ (x : Object). is_some x.ca)
    (added_present w (added_source s.store_dir name refs b) p o fresh e) ∙ ap is_some none)))
only_imported s w (import_object i) p o fresh e none = (
  i,
  refl,
  sym (added_where w (added_import s.store_dir i) p o fresh e),
  subst (λ (x : Object). IsAsSubmitted s.store_dir (with_import i) x)
      (added_present w (added_import s.store_dir i) p o fresh e) (import_as_passed s.store_dir i),
)
only_imported s w (collect ignores None) p o fresh e none = absurd (fresh_kept w (lives s w) p o fresh e)
only_imported s w (collect ignores (Some limit)) p o fresh e none = absurd (fresh_kept w (leaves s w limit) p o fresh e)
only_imported s w (delete named ignores) p o fresh e none =
    absurd (fresh_kept w (λ x. not (is_deleted_with w named x)) p o fresh e)
only_imported s w _ p o fresh e none = absurd (false≢true (sym fresh ∙ ap is_some e))

trusted_then : (s : Settings) (w : World) (c : Caller) (q : Request) → verdict s w c q ≡ None → (p : Path) (o : Object)
    → IsFalse (has w p) → finite.get (effect s w q).objects p ≡ Some o → o.ca ≡ None
    → IsTrue (is_trusted (class_of s c))
trusted_then s w c q v p o fresh e none =
    elim (cases_Bool (is_trusted (class_of s c))) as (λ _. IsTrue (is_trusted (class_of s c))) [
      | inl is ↦ is
      | inr other ↦ absurd (false≢true (sym (ap is_some none) ∙ has_address s w c q v other p o fresh e))
    ]

module _ (s : Settings) (w : World) (c : Caller) (q : Request) (calls : List (Caller × Request)) where
  came_new : (reply : Reply) (new : World) → Step s w c q reply new → IsWellFormed q → IsSound s.store_dir w
      → (p : Path) (o : Object) → IsFalse (has w p) → finite.get new.objects p ≡ Some o
      → Came s w ((c, q) ∷ calls) p o
  came_new (done a) new step formed sound p o fresh e = by o.ca refl
    where
      now : finite.get (effect s w q).objects p ≡ Some o
      now = ap (λ (u : World). finite.get u.objects p) (sym step.3) ∙ e

      by : (ca : Option ContentAddress) → o.ca ≡ ca → Came s w ((c, q) ∷ calls) p o
      by (Some x) f = addressed x f (((keeps_sound s w c q (done a) new step formed sound).objects p o e).address x f)
      by None f =
          let x = only_imported s w q p o fresh now f in
          imported c x.0 (subst (λ (r : Request). Contains ((c, q) ∷ calls) (c, r)) x.1 (at_head (c, q) calls))
          (trusted_then s w c q step.0 p o fresh now f) x.2 x.3
  came_new (denied rule root) new step formed sound p o fresh e =
      absurd (false≢true (sym fresh ∙ ap (λ (u : World). has u p) (sym step.2) ∙ ap is_some e))
  came_new (refused r) new step formed sound p o fresh e =
      absurd (false≢true (sym fresh ∙ ap (λ (u : World). has u p) (sym step.2) ∙ ap is_some e))
  came_new (failed f) new step formed sound p o fresh e =
      absurd (false≢true (sym fresh ∙ ap (λ (u : World). has u p) (sym step.1) ∙ ap is_some e))

  came : (reply : Reply) (new : World) → Step s w c q reply new → IsWellFormed q → IsSound s.store_dir w
      → (p : Path) (o : Object) → finite.get new.objects p ≡ Some o → Came s w ((c, q) ∷ calls) p o
  came reply new step formed sound p o e = elim (cases_Bool (has w p)) as (λ _. Came s w ((c, q) ∷ calls) p o) [
    | inl present ↦ existed (sym (nothing_replaced s w c q reply new step p present (ap is_some e)) ∙ e)
    | inr fresh ↦ came_new reply new step formed sound p o fresh e
  ]

pub nobody_plants_in_runs : NobodyPlantsInRuns
nobody_plants_in_runs s w [] [] new h formed sound p o e =
    existed (ap (λ (u : World). finite.get u.objects p) (sym h) ∙ e)
nobody_plants_in_runs s w (call ∷ calls) (reply ∷ replies) new h formed sound p o e =
    by (nobody_plants_in_runs s h.0 calls replies new h.2 formed.1
    (keeps_sound s w call.0 call.1 reply h.0 h.1 formed.0 sound) p o e)
  where
    by : Came s h.0 calls p o → Came s w (call ∷ calls) p o
    by (existed f) = came s w call.0 call.1 calls reply h.0 h.1 formed.0 sound p o f
    by (addressed a f v) = addressed a f v
    by (imported c i listed trusted at as_given) =
        imported c i (behind call (c, import_object i) calls listed) trusted at as_given
nobody_plants_in_runs s w [] (reply ∷ replies) new h formed sound p o e = absurd h
nobody_plants_in_runs s w (call ∷ calls) [] new h formed sound p o e = absurd h
