-- The first of some paths that lives, and the root that keeps it.
use Rattle.std.proofs.Common.{◌≡◌, ℕ, ◌+◌, ◌<◌, ◌≤◌, Bool, true, false, cond, ◌||◌, List, [], ◌∷◌, length, take, get_or}
use Rattle.std.proofs.Common.{slice_get, zero, suc, Option, Some, None, is_some, option_map, refl, sym, ap, subst, ◌∙◌}
use Rattle.std.proofs.Common.{arith}
use Rattle.std.specs.Prelude.{filter, find}
use Rattle.std.specs.List.{list_any}
use Rattle.std.specs.Option.{option_or}
use Rattle.std.proofs.lemmas.Bool.{false≢true}
use Rattle.std.proofs.lemmas.List.{get_or-map}
use Rattle.paths.specs.Root.{Root, in_order}
use Rattle.live.specs.Exact.{IsExact}
use Rattle.live.specs.Graph.{Graph, Keep}
use Rattle.live.specs.Live.{first_root, roots_that_reach}
use Rattle.live.specs.Marks.{Marking, first_of}
use Rattle.live.specs.Arguments.{root_view, roots_view}
use Rattle.live.specs.Numbering.{RootsRise, Row, graph_of, no_root, path_at, root_at}
use Rattle.live.specs.Reach.{reaches}
use Rattle.live.specs.Reaching.{reaches_any}
use Rattle.live.specs.declared.numbered.rows.Root.{Root as Handed}
use Rattle.live.proofs.Order.{in_order_is}
use Rattle.policy.specs.Settings.{Settings}
use Rattle.model.specs.World.{Path, World, roots_of}
use Rattle.tables_outline.specs.Outline.{OutlineValue, outline_of}
use Rattle.model.specs.Liveness.{first_root_of, keep_of, lives}
use Rattle.model.specs.Liveness as spec
use Rattle.model.specs.Verdict.{root_of_first}
use Rattle.model.proofs.WorldLives.{first_found, ordered_again}
use Rattle.store_reach.specs.FirstRoot.{AreMarked, first_value}
use Rattle.store_reach.specs.Linked.{graph_in, rows_in}
use Rattle.tables_outline.specs.Rooted.{rooted}
use Rattle.store_reach.proofs.Marked.{valid_rise}
use Rattle.store_reach.proofs.Places.{none_pass, none_reach, valid_reach}
use Rattle.store_reach.proofs.WalksBack.{one_named}
use Rattle.store_reach.proofs.Reported.{graph_reported, roots_reported}
use Rattle.store_reach.proofs.Valid.{aims_well, some_found}

-- ---- the first that has a value

both_none : {Y : Type 0} (a b : Option Y) → option_or a b ≡ None → (a ≡ None) × (b ≡ None)
both_none None b e = (refl, e)
both_none (Some y) b e = absurd (false≢true (sym (ap is_some e)))

module _ {X Y : Type 0} (f : X → Option Y) where
  pub first_here : (xs : List X) (i : ℕ) (x : X) → i < length xs → first_value f (take i xs) ≡ None → x ≡ get_or xs i x
      → (o : Option Y) → f x ≡ o → is_some o ≡ true → first_value f xs ≡ o
  first_here [] i x h none is o e some = absurd (omega (arith, h))
  first_here (z ∷ zs) zero x h none is o e some =
      ap (λ y. option_or (f y) (first_value f zs)) (sym is) ∙ ap (λ p. option_or p (first_value f zs)) e ∙ kept o some
    where
      kept : (p : Option Y) → is_some p ≡ true → option_or p (first_value f zs) ≡ p
      kept None s = absurd (false≢true s)
      kept (Some y) s = refl
  first_here (z ∷ zs) (suc i) x h none is o e some =
      let parts = both_none (f z) (first_value f (take i zs)) none in
      ap (λ p. option_or p (first_value f zs)) parts.0 ∙ first_here zs i x (omega (arith, h)) parts.1 is o e some

  none_more : (xs : List X) (i : ℕ) (x : X) → i < length xs → first_value f (take i xs) ≡ None → x ≡ get_or xs i x
      → f x ≡ None → first_value f (take (suc i) xs) ≡ None
  none_more [] i x h none is e = absurd (omega (arith, h))
  none_more (z ∷ zs) zero x h none is e = ap (λ y. option_or (f y) None) (sym is) ∙ ap (λ p. option_or p None) e
  none_more (z ∷ zs) (suc i) x h none is e =
      let parts = both_none (f z) (first_value f (take i zs)) none in
      ap (λ p. option_or p (first_value f (take (suc i) zs))) parts.0 ∙ none_more zs i x (omega (arith, h)) parts.1 is e

  pub not_yet : (xs : List X) (i : ℕ) (x : X) → i < length xs → first_value f (take i xs) ≡ None → x ≡ get_or xs i x
      → f x ≡ None → first_value f (take (i + 1) xs) ≡ None
  not_yet xs i x h none is e = ap (λ n. first_value f (take n xs)) one ∙ none_more xs i x h none is e
    where
      one : i + 1 ≡ suc i
      one = omega arith

-- the root at the first mark of a path's place is the path's
pub marked_at : (rows : List Row) (m : Marking) (root : ℕ → Root) (root_of : Path → Option Root)
    → AreMarked rows m root root_of
    → (i : ℕ) → i < length rows → (p : Path) → path_at rows i ≡ p → root_of p ≡ option_map root (first_of m i)
marked_at rows m root root_of marked i inside p at = ap root_of (sym at) ∙ marked.present i inside

-- ---- the first that lives

module _ (s : Settings) (w : World) where
  lives_if : (p : Path) → is_some (first_root_of s w p) ≡ lives s w p
  lives_if p =
      let test : Root → Bool = λ r. reaches (keep_of s) (spec.graph_of w) r.target p in
      some_found test (in_order (roots_of w)) ∙ ap (list_any test) (ordered_again w)

  pub first_living : (ps : List Path) → first_value (first_root_of s w) ps ≡ root_of_first s w (find (lives s w) ps)
  first_living [] = refl
  first_living (p ∷ ps) = by (first_root_of s w p) refl (first_living ps)
    where
      by : (o : Option Root) → first_root_of s w p ≡ o
          → first_value (first_root_of s w) ps ≡ root_of_first s w (find (lives s w) ps)
          → option_or o (first_value (first_root_of s w) ps)
          ≡ root_of_first s w (cond (lives s w p) (Some p) (find (lives s w) ps))
      by None e later =
          later ∙ ap (λ b. root_of_first s w (cond b (Some p) (find (lives s w) ps))) (sym (ap is_some e) ∙ lives_if p)
      by (Some r) e later =
          sym e ∙ ap (λ b. root_of_first s w (cond b (Some p) (find (lives s w) ps))) (sym (ap is_some e) ∙ lives_if p)

  pub some_living : (ps : List Path) → is_some (first_value (first_root_of s w) ps) ≡ list_any (lives s w) ps
  some_living [] = refl
  some_living (p ∷ ps) = by (first_root_of s w p) refl (some_living ps)
    where
      by : (o : Option Root) → first_root_of s w p ≡ o
          → is_some (first_value (first_root_of s w) ps) ≡ list_any (lives s w) ps
          → is_some (option_or o (first_value (first_root_of s w) ps)) ≡ (lives s w p || list_any (lives s w) ps)
      by None e later = later ∙ ap (λ b. b || list_any (lives s w) ps) (sym (ap is_some e) ∙ lives_if p)
      by (Some r) e later = ap (λ b. b || list_any (lives s w) ps) (sym (ap is_some e) ∙ lives_if p)

-- ---- the first of some roots that reaches a path

-- in order, it is the first of those that reach it
first_reaching : (keep : Keep) (g : Graph) (roots : List Root) → RootsRise roots → (p : Path)
    → first_root keep g roots p ≡ slice_get (roots_that_reach keep g roots p) 0
first_reaching keep g roots rise p =
    let test : Root → Bool = λ r. reaches keep g r.target p in
    ap (find test) (in_order_is roots rise) ∙ sym (first_found test roots)

module _ (keep : Keep) (o : OutlineValue) (roots : List Root) (rise : RootsRise roots) (rows : List Row)
    (valid : List Root) (is : rows ≡ rows_in o) (same : valid ≡ filter (aims_well o) roots) where
  -- roots whose targets aren't valid reach nothing
  first_valid : (p : Path) → first_root keep (graph_of rows) valid p ≡ first_root keep (graph_in o) roots p
  first_valid p =
      first_reaching keep (graph_of rows) valid (valid_rise o rows is roots valid same rise) p
      ∙ ap (λ (rs : List Root). slice_get rs 0) (valid_reach keep o rows valid roots p p is same refl)
      ∙ sym (first_reaching keep (graph_in o) roots rise p)

  exactly : (m : Marking) → IsExact keep rows valid m
      → AreMarked rows m (root_at valid) (first_root keep (graph_in o) roots)
  exactly m exact = record {
    present = λ i l. sym (exact.first i l ∙ first_valid _);
    nowhere =
        λ p none. first_reaching keep (graph_in o) roots rise p
        ∙ ap (λ (rs : List Root). slice_get rs 0) (sym (none_reach keep o rows p roots is none));
  }

  -- the marks say so of rows that are borrowed again
  pub all_marked : (again : List Row) → again ≡ rows_in o → (m : Marking) → IsExact keep rows valid m
      → AreMarked again m (root_at valid) (first_root keep (graph_in o) roots)
  all_marked again also m exact =
      subst (λ (rs : List Row). AreMarked rs m (root_at valid) (first_root keep (graph_in o) roots)) (is ∙ sym also)
      (exactly m exact)

-- ---- the first of those that reach some paths

-- where nothing passes one of two tests, nothing passes the first, and nothing the second
none_either : {X : Type 0} (f g : X → Bool) (xs : List X) → filter (λ x. f x || g x) xs ≡ []
    → (filter f xs ≡ []) × (filter g xs ≡ [])
none_either f g [] none = (refl, refl)
none_either {X} f g (x ∷ xs) none = by (f x) (g x) (none_either f g xs) none
  where
    by : (a b : Bool) → (filter (λ y. f y || g y) xs ≡ [] → (filter f xs ≡ []) × (filter g xs ≡ []))
        → cond (a || b) (x ∷ filter (λ y. f y || g y) xs) (filter (λ y. f y || g y) xs) ≡ []
        → (cond a (x ∷ filter f xs) (filter f xs) ≡ []) × (cond b (x ∷ filter g xs) (filter g xs) ≡ [])
    by true b later none = absurd cc
    by false true later none = absurd cc
    by false false later none = later none

module _ (keep : Keep) (g : Graph) (roots : List Root) (rise : RootsRise roots) where
  abbrev first : Path → Option Root
  first = first_root keep g roots

  abbrev keeping : List Path → List Root
  keeping named = filter (λ r. reaches_any keep g named r.target) roots

  none_living : (named : List Path) → keeping named ≡ [] → first_value first named ≡ None
  none_living [] none = refl
  none_living (p ∷ ps) none =
      let parts =
      none_either (λ (r : Root). reaches keep g r.target p) (λ (r : Root). reaches_any keep g ps r.target) roots
      none in
      ap (λ (o : Option Root). option_or o (first_value first ps))
      (first_reaching keep g roots rise p ∙ ap (λ (rs : List Root). slice_get rs 0) parts.0)
      ∙ none_living ps parts.1

  one_living : (p : Path) → slice_get (keeping (p ∷ [])) 0 ≡ first_value first (p ∷ [])
  one_living p =
      ap (λ (rs : List Root). slice_get rs 0) (one_named keep g (p ∷ []) p roots refl)
      ∙ sym (first_reaching keep g roots rise p) ∙ or_none (first p)
    where
      or_none : (o : Option Root) → o ≡ option_or o None
      or_none None = refl
      or_none (Some r) = refl

  -- if no root keeps one of the paths, none is the first
  pub none_kept : (named : List Path) (found : List Root) → found ≡ keeping named → slice_get found 0 ≡ None
      → None ≡ first_value first named
  none_kept named found is none = sym (none_living named (sym is ∙ empty found none))
    where
      empty : (rs : List Root) → slice_get rs 0 ≡ None → rs ≡ []
      empty [] e = refl
      empty (r ∷ rs) e = absurd (false≢true (sym (ap is_some e)))

  -- of one path, the first that keeps it is
  pub one_kept : (named : List Path) (found : List Root) → found ≡ keeping named → length named ≤ 1 → (r : Root)
      → slice_get found 0 ≡ Some r → Some r ≡ first_value first named
  one_kept [] found is few r some =
      absurd (false≢true (ap is_some
      (sym (ap (λ (rs : List Root). slice_get rs 0)
      (is ∙ none_pass (λ (r : Root). reaches_any keep g [] r.target) roots (λ r. refl))) ∙ some)))
  one_kept (p ∷ []) found is few r some = sym some ∙ ap (λ rs. slice_get rs 0) is ∙ one_living p
  one_kept (p ∷ q ∷ ps) found is few r some = absurd (omega (arith, few))

-- ---- what an outline says of a world

pub first_reported : (s : Settings) (o : OutlineValue) (keep : Keep) (roots : List Root) (named : List Path)
    → keep ≡ keep_of s → roots ≡ roots_of (rooted o) → (w : World) → outline_of w ≡ o
    → first_value (first_root keep (graph_in o) roots) named ≡ first_value (first_root_of s w) named
first_reported s o keep roots named kept is w reported =
    λ i. first_value (first_root (kept i) (graph_reported w o reported i) ((is ∙ roots_reported w o reported) i)) named

-- the root at a place
pub root_present : (given : List Handed) (k : ℕ) (r : Handed) → k < length given → r ≡ get_or given k r
    → root_at (roots_view given) k ≡ root_view r
root_present given k r inside is = get_or-map root_view given k r no_root inside ∙ ap root_view (sym is)
