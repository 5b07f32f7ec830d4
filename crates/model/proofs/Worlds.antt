-- The graph of a world, and what lives in it.
use Rattle.std.proofs.Common.{◌≡◌, List, [], ◌∷◌, map, Bool, true, false, cond, Some, None, Option, option_map, refl}
use Rattle.std.proofs.Common.{sym, ap, ◌∙◌, IsTrue}
use Rattle.std.specs.Prelude.{Contains, is_some}
use Rattle.std.specs.Ordering.{eq_by_cmp}
use Rattle.std.specs.Cmp.{Equal-is}
use Rattle.std.specs.Cmp.Lexicographic.{nat_list_cmp_total}
use Rattle.std.specs.FinMap as finite
use Rattle.std.specs.FinMap.Entries.{find as find_entry}
use Rattle.std.proofs.lemmas.Bool.{false≢true}
use Rattle.paths.specs.Root.{bytes_cmp, Root}
use Rattle.live.specs.Graph.{is_valid}
use Rattle.live.specs.Reach.{Reaches}
use Rattle.live.proofs.Reach.{same_is, end_valid}
use Rattle.live.proofs.Live.{live_decided}
use Rattle.model.specs.World.{Path, Object, Objects, World, has, roots_of}
use Rattle.policy.specs.Settings.{Settings}
use Rattle.model.specs.Liveness.{links_of, linked, graph_of, keep_of, lives}

-- ---- the graph at a path

find-mapped : {X Y : Type 0} (f : X → Y) (es : List (Path × X)) (q : Path)
    → find_entry bytes_cmp q (map (λ (e : Path × X). (e.0, f e.1)) es) ≡ option_map f (find_entry bytes_cmp q es)
find-mapped f [] q = refl
find-mapped {X} {Y} f (e ∷ es) q = go (eq_by_cmp bytes_cmp q e.0) (find-mapped f es q)
  where
    go : (b : Bool) → find_entry bytes_cmp q (map (λ (d : Path × X). (d.0, f d.1)) es)
        ≡ option_map f (find_entry bytes_cmp q es)
        → cond b (Some (f e.1)) (find_entry bytes_cmp q (map (λ (d : Path × X). (d.0, f d.1)) es))
        ≡ option_map f (cond b (Some e.1) (find_entry bytes_cmp q es))
    go true later = refl
    go false later = later

pub get-graph : (w : World) (p : Path) → finite.get (graph_of w) p ≡ option_map links_of (finite.get w.objects p)
unfolding linked
get-graph w p =
    finite.get-from_entries nat_list_cmp_total _ p ∙ find-mapped links_of (finite.entries w.objects) p
    ∙ sym (ap (option_map links_of) (finite.get-entries w.objects p))

some_mapped : (o : Option Object) → is_some (option_map links_of o) ≡ is_some o
some_mapped None = refl
some_mapped (Some o) = refl

pub valid_is : (w : World) (p : Path) → is_valid (graph_of w) p ≡ has w p
valid_is w p = ap is_some (get-graph w p) ∙ some_mapped (finite.get w.objects p)

-- ---- live paths

pub live_of : (s : Settings) (w : World) (r : Root) (p : Path) → Contains (roots_of w) r
    → Reaches (keep_of s) (graph_of w) r.target p → IsTrue (lives s w p)
live_of s w r p c h =
    (live_decided (keep_of s) (graph_of w) (roots_of w) p).1 (record { root = r; listed = c; reaches = h })

pub live_has : (s : Settings) (w : World) (p : Path) → IsTrue (lives s w p) → IsTrue (has w p)
live_has s w p h =
    let l = (live_decided (keep_of s) (graph_of w) (roots_of w) p).0 h in
    sym (valid_is w p) ∙ end_valid (keep_of s) (graph_of w) l.root.target p l.reaches

-- ---- what a removal leaves

pub get-keeping : (objects : Objects) (test : Path → Bool) (p : Path)
    → finite.get (finite.retain_keys objects test) p ≡ cond (test p) (finite.get objects p) None
get-keeping objects test p =
    finite.get-retain_keys objects test p (λ x e. ap test (sym (same_is p x ((Equal-is (bytes_cmp p x)).1 e))))

pub kept_if : (objects : Objects) (test : Path → Bool) (p : Path) → IsTrue (test p)
    → finite.get (finite.retain_keys objects test) p ≡ finite.get objects p
kept_if objects test p h = get-keeping objects test p ∙ ap (λ b. cond b (finite.get objects p) None) h

pub found_in : (objects : Objects) (test : Path → Bool) (p : Path) (o : Object)
    → finite.get (finite.retain_keys objects test) p ≡ Some o → IsTrue (test p) × (finite.get objects p ≡ Some o)
found_in objects test p o e = by (test p) refl (sym (get-keeping objects test p) ∙ e)
  where
    by : (b : Bool) → test p ≡ b → cond b (finite.get objects p) None ≡ Some o
        → IsTrue (test p) × (finite.get objects p ≡ Some o)
    by true t e = (t, e)
    by false t e = absurd (false≢true (ap is_some e))
