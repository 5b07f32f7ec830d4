-- What a collection keeps.
use Rattle.std.proofs.Common.{◌≡◌, List, [], ◌∷◌, Bool, true, false, not, cond, Some, None, Option, refl, sym, ap, ◌∙◌}
use Rattle.std.proofs.Common.{IsTrue, subst}
use Rattle.std.specs.Prelude.{is_some}
use Rattle.std.specs.List.{filter}
use Rattle.std.specs.Cmp.Lexicographic.{nat_list_cmp_total}
use Rattle.std.specs.FinMap as finite
use Rattle.std.proofs.lemmas.Bool.{false≢true, or_left, or_right}
use Rattle.live.specs.Graph.{same, holds}
use Rattle.live.proofs.Reach.{same_itself}
use Rattle.live.proofs.Live.{live_decided}
use Rattle.model.specs.World.{Path, Object, Objects, World, has, all_paths, roots_of}
use Rattle.policy.specs.Settings.{Settings}
use Rattle.policy.specs.Caller.{Caller}
use Rattle.model.specs.Request.{collect}
use Rattle.model.specs.Reply.{Reply, done, denied, refused, failed, freed}
use Rattle.model.specs.Liveness.{graph_of, keep_of, lives, dead_paths, bytes_in}
use Rattle.model.specs.Effects.{keeping}
use Rattle.model.specs.Step.{Step}
use Rattle.model.specs.Reply.{IsDone}
use Rattle.model.specs.Collection.{CollectsExactly, Collects}
use Rattle.model.proofs.MapMembers.{bytes_antisymmetric}
use Rattle.model.proofs.Worlds.{get-keeping, kept_if, live_of}
use Rattle.model.proofs.Pins.{reach_stays}

module _ (s : Settings) (w : World) where
  left_lives : (p : Path) → IsTrue (has (keeping w (lives s w)) p) → IsTrue (lives s w p)
  left_lives p h = by (lives s w p) refl (sym (ap is_some (get-keeping w.objects (lives s w) p)) ∙ h)
    where
      by : (b : Bool) → lives s w p ≡ b → is_some (cond b (finite.get w.objects p) None) ≡ true → IsTrue (lives s w p)
      by true e k = e
      by false e k = absurd (false≢true k)

  still_lives : (p : Path) → IsTrue (lives s w p) → IsTrue (lives s (keeping w (lives s w)) p)
  still_lives p h =
      let l = (live_decided (keep_of s) (graph_of w) (roots_of w) p).0 h in
      live_of s (keeping w (lives s w)) l.root p l.listed
      (reach_stays s w (keeping w (lives s w)) (λ q t. kept_if w.objects (lives s w) q t) l.root l.listed p
      l.reaches)

none_left : (test : Path → Bool) (ps : List Path) → ((p : Path) → IsTrue (holds ps p) → IsTrue (test p))
    → filter (λ p. not (test p)) ps ≡ []
none_left test [] f = refl
none_left test (x ∷ xs) f =
    ap (λ b. cond (not b) (x ∷ filter (λ p. not (test p)) xs) (filter (λ p. not (test p)) xs))
    (f x (or_left (same x x) _ (same_itself x)))
    ∙ none_left test xs (λ p h. f p (or_right (same p x) _ h))

all_pass : (objects : Objects) (test : Path → Bool)
    → ((p : Path) → IsTrue (finite.contains_key objects p) → IsTrue (test p)) → (p : Path)
    → IsTrue (holds (finite.keys objects) p) → IsTrue (test p)
all_pass objects test f p h = f p (finite.contains_key-keys objects p ∙ h)

module _ (s : Settings) (w : World) where
  none_dead : dead_paths s (keeping w (lives s w)) ≡ []
  none_dead =
      none_left (lives s (keeping w (lives s w))) (all_paths (keeping w (lives s w)))
      (all_pass (keeping w (lives s w)).objects (lives s (keeping w (lives s w)))
      (λ p h. still_lives s w p (left_lives s w p h)))

  -- a further collection keeps each path that is left
  all_stay : (p : Path) → finite.get (keeping (keeping w (lives s w)) (lives s (keeping w (lives s w)))).objects p
      ≡ finite.get (keeping w (lives s w)).objects p
  all_stay p = by (lives s (keeping w (lives s w)) p) refl
    where
      absent : (o : Option Object) → finite.get (keeping w (lives s w)).objects p ≡ o
          → lives s (keeping w (lives s w)) p ≡ false → None ≡ o
      absent None e f = refl
      absent (Some o) e f = absurd (false≢true (sym f ∙ still_lives s w p (left_lives s w p (ap is_some e))))

      by : (b : Bool) → lives s (keeping w (lives s w)) p ≡ b
          → finite.get (keeping (keeping w (lives s w)) (lives s (keeping w (lives s w)))).objects p
          ≡ finite.get (keeping w (lives s w)).objects p
      by true e = kept_if (keeping w (lives s w)).objects (lives s (keeping w (lives s w))) p e
      by false e =
          get-keeping (keeping w (lives s w)).objects (lives s (keeping w (lives s w))) p
          ∙ ap (λ b. cond b (finite.get (keeping w (lives s w)).objects p) None) e
          ∙ absent (finite.get (keeping w (lives s w)).objects p) refl e

  same_world : keeping (keeping w (lives s w)) (lives s (keeping w (lives s w))) ≡ keeping w (lives s w)
  same_world =
      let objects =
      finite.same_map nat_list_cmp_total bytes_antisymmetric
      (keeping (keeping w (lives s w)) (lives s (keeping w (lives s w)))).objects (keeping w (lives s w)).objects
      all_stay in
      λ i. record (keeping w (lives s w)) { objects = objects i }

  once : (c : Caller) (reply : Reply) (last : World) → Step s (keeping w (lives s w)) c (collect false None) reply last
      → IsDone reply → (reply ≡ done (freed [] 0)) × (last ≡ keeping w (lives s w))
  once c (done a) last h d = (
    ap done (h.2 ∙ ap (λ (ps : List Path). freed ps (bytes_in (keeping w (lives s w)) ps)) none_dead),
    h.3 ∙ same_world,
  )
  once c (denied rule root) last h d = absurd d
  once c (refused r) last h d = absurd d
  once c (failed f) last h d = absurd d

  pub exactly : CollectsExactly s w (keeping w (lives s w))
  exactly = record {
    kept = λ p h. kept_if w.objects (lives s w) p h;
    deleted =
        λ p h. ap is_some (get-keeping w.objects (lives s w) p)
        ∙ ap (λ b. is_some (cond b (finite.get w.objects p) None)) h;
    roots = record { permanent = refl; user_roots = refl; profiles = refl; runtime = refl; temporary = refl };
    once = once;
  }

pub collects : Collects
collects s w c ignores (done a) new h d = subst (λ (u : World). CollectsExactly s w u) (sym h.3) (exactly s w)
collects s w c ignores (denied rule root) new h d = absurd d
collects s w c ignores (refused r) new h d = absurd d
collects s w c ignores (failed f) new h d = absurd d
