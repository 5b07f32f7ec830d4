-- Walks back from named paths: the numbers that they begin with, and what the marks say.
use Rattle.std.proofs.Common.{◌≡◌, ℕ, ◌+◌, ◌<◌, Bool, true, false, cond, ◌||◌, List, [], ◌∷◌, ◌++◌, map, length, get_or}
use Rattle.std.proofs.Common.{take, append-nil, suc, sym, ap, ap₂, ◌∙◌, subst, arith}
use Rattle.std.specs.Prelude.{All, filter}
use Rattle.std.specs.List.{list_any}
use Rattle.std.specs.FinMap as finite
use Rattle.std.proofs.lemmas.Bool.{false≢true, false_from_ne_true}
use Rattle.std.proofs.lemmas.List.{map-append}
use Rattle.std.proofs.lemmas.List.Elements.{All-append, All-cons, All-nil, filter-append}
use Rattle.std.proofs.lemmas.List.Folds.{list_any-append, list_any_none}
use Rattle.std.proofs.Math.Seq.{take-suc}
use Rattle.paths.specs.Root.{Root}
use Rattle.paths.specs.RootView.{root_view}
use Rattle.paths.specs.declared.root.Root.{Root as Listed}
use Rattle.live.specs.Arguments.{root_view as lent_view, roots_view}
use Rattle.live.specs.Graph.{Graph, Keep, Path}
use Rattle.live.specs.Live.{roots_that_reach}
use Rattle.live.specs.Reach.{reaches}
use Rattle.live.specs.Reaching.{AreUsed, Reaching, is_marked, reaches_any}
use Rattle.live.specs.declared.numbered.rows.Root.{Root as Handed}
use Rattle.live.proofs.Reach.{decided, end_valid}
use Rattle.tables_outline.specs.Links.{AreLinksOf, LinksValue, all_entries, is_held}
use Rattle.tables_outline.specs.LinkNames.{name_at}
use Rattle.tables_outline.proofs.Bools.{or_nothing}
use Rattle.tables_outline.proofs.LinkNumbers.{count}
use Rattle.tables_outline.specs.Outline.{OutlineValue}
use Rattle.tables_outline.specs.Turned.{links_in, links_of}
use Rattle.tables_outline.proofs.Orders.{bytes_total, bytes_antisymmetric}
use Rattle.tables_outline.proofs.Reported.{get-reported}
use Rattle.tables_outline.proofs.TurnedObjects.{as_links}
use Rattle.store_reach.specs.Linked.{graph_in}
use Rattle.store_reach.specs.Reached.{AreNumbersOf, IsFound}

-- ---- numbers of paths, one after another

one : (P : ℕ → Type 0) (n : ℕ) → P n → All P (n ∷ [])
one P n h = All-cons P n [] h (All-nil P)

module _ (l : LinksValue) (named : List Path) (numbers : List ℕ) (i : ℕ) (p : Path) (h : i < length named)
    (is : p ≡ get_or named i p) (so_far : AreNumbersOf l (take i named) numbers) where
  more : (test : Path → Bool) → list_any test (take (i + 1) named) ≡ (list_any test (take i named) || test p)
  more test =
      ap (λ n. list_any test (take n named)) suc_i
      ∙ ap (list_any test) (take-suc named i p h ∙ ap (λ q. take i named ++ q ∷ []) (sym is))
      ∙ list_any-append test (take i named) (p ∷ []) ∙ ap (λ b. list_any test (take i named) || b) (or_nothing (test p))
    where
      suc_i : i + 1 ≡ suc i
      suc_i = omega arith

  pub one_numbered : (n : ℕ) → n < length l.names → is_held l p ≡ true → name_at l.names n ≡ p
      → AreNumbersOf l (take (i + 1) named) (numbers ++ n ∷ [])
  one_numbered n inside held at = record {
    inside =
        All-append (λ k. k < length l.names) numbers (n ∷ []) so_far.inside (one (λ k. k < length l.names) n inside);
    held =
        All-append (λ k. is_held l (name_at l.names k) ≡ true) numbers (n ∷ []) so_far.held
        (one (λ k. is_held l (name_at l.names k) ≡ true) n (ap (is_held l) at ∙ held));
    those = λ test misses.
        ap (list_any test) (map-append (name_at l.names) numbers (n ∷ []))
        ∙ list_any-append test (map (name_at l.names) numbers) (name_at l.names n ∷ [])
        ∙ ap₂ (λ a b. a || b) (so_far.those test misses) (or_nothing (test (name_at l.names n)) ∙ ap test at)
        ∙ sym (more test);
  }

  pub none_numbered : is_held l p ≡ false → AreNumbersOf l (take (i + 1) named) numbers
  none_numbered none = record {
    inside = so_far.inside;
    held = so_far.held;
    those =
        λ test misses. so_far.those test misses
        ∙ sym (more test ∙ ap (λ b. list_any test (take i named) || b) (misses p none)
        ∙ or_nothing (list_any test (take i named)));
  }

-- ---- what the marks say

module _ (g : Graph) (l : LinksValue) (are : AreLinksOf (finite.get g) l) (keep : Keep) where
  -- a path that is no object's reaches nothing, and nothing reaches it
  unreached : (a p : Path) → is_held l p ≡ false → reaches keep g a p ≡ false
  unreached a p none =
      false_from_ne_true (reaches keep g a p)
      (λ e. false≢true (sym none ∙ are.held p ∙ end_valid keep g a p ((decided keep g a p).0 e)))

  unreaching : (p z : Path) → is_held l p ≡ false → reaches keep g p z ≡ false
  unreaching p z none =
      false_from_ne_true (reaches keep g p z)
      (λ e. false≢true (sym none ∙ are.held p ∙ ((decided keep g p z).0 e).valid))

  pub reaching_none : (named : List Path) (p : Path) → is_held l p ≡ false → reaches_any keep g named p ≡ false
  reaching_none named p none = list_any_none (reaches keep g p) named (λ k d h. unreaching p (get_or named k d) none)

  module _ (named : List Path) (numbers : List ℕ) (those : AreNumbersOf l named numbers) where
    pub are_used : AreUsed g (name_at l.names) numbers
    are_used i c =
        sym (are.held (name_at l.names i))
        ∙ subst (λ j. is_held l (name_at l.names j) ≡ true) c.2 (those.held c.0 i c.1)

    pub found_by : (r : Reaching) → ((i : ℕ) → i < length (all_entries l)
        → is_marked r i ≡ reaches_any keep g (map (name_at l.names) numbers) (name_at l.names i))
        → IsFound keep g l named r
    found_by r marks i h =
        marks i (let n = count l in omega (arith, n, h))
        ∙ those.those (reaches keep g (name_at l.names i)) (λ p none. unreached (name_at l.names i) p none)

-- to reach one path of a list that has one is to reach it
pub one_named : (keep : Keep) (g : Graph) (named : List Path) (p : Path) (roots : List Root) → named ≡ p ∷ []
    → filter (λ (r : Root). reaches_any keep g named r.target) roots ≡ roots_that_reach keep g roots p
one_named keep g named p roots is =
    (λ i. filter (λ (r : Root). reaches_any keep g (is i) r.target) roots)
    ∙ (λ i. filter (λ (r : Root). or_nothing (reaches keep g r.target p) i) roots)

-- ---- roots that were found, one after another

module _ (test : Root → Bool) (roots : List Listed) (i : ℕ) (r : Listed) (h : i < length roots)
    (is : r ≡ get_or roots i r) (before : List Handed)
    (so_far : roots_view before ≡ filter test (map root_view (take i roots))) where
  abbrev earlier : List Root
  earlier = filter test (map root_view (take i roots))

  more_roots : filter test (map root_view (take (i + 1) roots))
      ≡ earlier ++ cond (test (root_view r)) (root_view r ∷ []) []
  more_roots =
      ap (λ n. filter test (map root_view (take n roots))) suc_i
      ∙ ap (λ (rs : List Listed). filter test (map root_view rs))
      (take-suc roots i r h ∙ ap (λ (q : Listed). take i roots ++ q ∷ []) (sym is))
      ∙ ap (filter test) (map-append root_view (take i roots) (r ∷ []))
      ∙ filter-append test (map root_view (take i roots)) (root_view r ∷ [])
    where
      suc_i : i + 1 ≡ suc i
      suc_i = omega arith

  pub root_found : (lent : Handed) → lent_view lent ≡ root_view r → test (root_view r) ≡ true
      → roots_view (before ++ lent ∷ []) ≡ filter test (map root_view (take (i + 1) roots))
  root_found lent lends e =
      map-append lent_view before (lent ∷ []) ∙ ap₂ (λ (rs : List Root) (q : Root). rs ++ q ∷ []) so_far lends
      ∙ sym (more_roots ∙ ap (λ b. earlier ++ cond b (root_view r ∷ []) []) e)

  pub root_missed : test (root_view r) ≡ false → roots_view before ≡ filter test (map root_view (take (i + 1) roots))
  root_missed e = so_far ∙ sym (more_roots ∙ ap (λ b. earlier ++ cond b (root_view r ∷ []) []) e ∙ append-nil earlier)

-- ---- the graph of an outline

pub linked_graph : (o : OutlineValue) (l : LinksValue) → AreLinksOf (links_of o.objects) l
    → AreLinksOf (finite.get (graph_in o)) l
linked_graph o l are =
    as_links (links_of o.objects) (finite.get (graph_in o)) l
    (λ p. sym (get-reported bytes_total bytes_antisymmetric (λ _ x. links_in x) o.objects p)) are
