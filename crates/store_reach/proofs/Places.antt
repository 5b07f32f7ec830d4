-- Paths among rows, and what reaches one.
use Rattle.std.proofs.Common.{◌≡◌, Bool, true, false, cond, ◌||◌, List, [], ◌∷◌, refl, sym, ap, ◌∙◌}
use Rattle.std.specs.Prelude.{filter}
use Rattle.std.specs.List.{list_any}
use Rattle.std.specs.FinMap as finite
use Rattle.std.proofs.lemmas.Bool.{false≢true, false_from_ne_true}
use Rattle.paths.specs.Root.{Root}
use Rattle.live.specs.Graph.{Keep, same}
use Rattle.live.specs.Live.{roots_that_reach}
use Rattle.live.specs.Numbering.{Row, graph_of, paths_of}
use Rattle.live.specs.Reach.{reaches}
use Rattle.live.proofs.Reach.{decided, end_valid}
use Rattle.policy.specs.Settings.{Settings}
use Rattle.model.specs.World.{Path, World, roots_of}
use Rattle.tables_outline.specs.Outline.{OutlineValue, outline_of}
use Rattle.tables_outline.proofs.Orders.{bytes_total, bytes_antisymmetric}
use Rattle.tables_outline.proofs.Reported.{has-reported}
use Rattle.model.specs.Liveness.{keep_of, roots_that_keep}
use Rattle.tables_outline.specs.Turned.{links_in}
use Rattle.store_reach.specs.Linked.{graph_in, rows_in}
use Rattle.tables_outline.specs.Rooted.{rooted}
use Rattle.store_reach.proofs.Rising.{paths_in}
use Rattle.store_reach.proofs.Reported.{graph_reported, roots_reported}
use Rattle.store_reach.proofs.Valid.{aims_well, filter_kept, reaches_from_valid}

-- ---- a path that isn't valid

none_any : {X : Type 0} (f : X → Bool) (xs : List X) → filter f xs ≡ [] → list_any f xs ≡ false
none_any f [] e = refl
none_any {X} f (x ∷ xs) e = by (f x) e (none_any f xs)
  where
    by : (b : Bool) → cond b (x ∷ filter f xs) (filter f xs) ≡ [] → (filter f xs ≡ [] → list_any f xs ≡ false)
        → (b || list_any f xs) ≡ false
    by true e later = absurd cc
    by false e later = later e

pub none_pass : {X : Type 0} (f : X → Bool) (xs : List X) → ((x : X) → f x ≡ false) → filter f xs ≡ []
none_pass f [] h = refl
none_pass f (x ∷ xs) h = ap (λ b. cond b (x ∷ filter f xs) (filter f xs)) (h x) ∙ none_pass f xs h

-- nothing reaches it
pub unreached : (keep : Keep) (o : OutlineValue) (rows : List Row) (a p : Path) → rows ≡ rows_in o
    → filter (same p) (paths_of rows) ≡ [] → reaches keep (graph_of (rows_in o)) a p ≡ false
unreached keep o rows a p is none = false_from_ne_true (reaches keep (graph_of (rows_in o)) a p) (λ e.
    let g = graph_of (rows_in o) in
    let valid = end_valid keep g a p ((decided keep g a p).0 e) in
    false≢true (sym missing ∙ sym (has-reported bytes_total bytes_antisymmetric (λ _ x. links_in x) o.objects p)
    ∙ valid))
  where
    missing : finite.contains_key o.objects p ≡ false
    missing =
        finite.contains_key-keys o.objects p
        ∙ none_any (same p) (finite.keys o.objects) (ap (filter (same p)) (sym (ap paths_of is ∙ paths_in o)) ∙ none)

-- no root's target reaches it
pub none_reach : (keep : Keep) (o : OutlineValue) (rows : List Row) (p : Path) (roots : List Root) → rows ≡ rows_in o
    → filter (same p) (paths_of rows) ≡ [] → [] ≡ roots_that_reach keep (graph_in o) roots p
none_reach keep o rows p roots is none =
    sym (none_pass (λ (r : Root). reaches keep (graph_in o) r.target p) roots
    (λ r. unreached keep o rows r.target p is none))

-- ---- the roots that reach a path

-- the others reach nothing
pub valid_reach : (keep : Keep) (o : OutlineValue) (rows : List Row) (valid roots : List Root) (p q : Path)
    → rows ≡ rows_in o → valid ≡ filter (aims_well o) roots → q ≡ p
    → roots_that_reach keep (graph_of rows) valid q ≡ roots_that_reach keep (graph_in o) roots p
valid_reach keep o rows valid roots p q r v same =
    (λ i. roots_that_reach keep (graph_of (r i)) (v i) (same i))
    ∙ filter_kept (λ (x : Root). reaches keep (graph_in o) x.target p) (aims_well o)
    (λ x h. reaches_from_valid keep o x.target p h) roots

pub keeping_reported : (s : Settings) (o : OutlineValue) (keep : Keep) (roots : List Root) (p : Path) → keep ≡ keep_of s
    → roots ≡ roots_of (rooted o)
    → (w : World) → outline_of w ≡ o → roots_that_reach keep (graph_in o) roots p ≡ roots_that_keep s w p
keeping_reported s o keep roots p k r w reported =
    λ i. roots_that_reach (k i) (graph_reported w o reported i) ((r ∙ roots_reported w o reported) i) p
