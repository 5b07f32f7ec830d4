-- What a deletion takes with it.
use Rattle.std.proofs.Common.{◌≡◌, ℕ, ◌+◌, ◌<◌, Bool, false, List, [], ◌∷◌, ◌++◌, map, length, get_or, take, zero, suc}
use Rattle.std.proofs.Common.{refl, sym, ap, subst, ◌∙◌, arith}
use Rattle.std.specs.Prelude.{All, filter}
use Rattle.std.specs.List.{list_any, range_with_len}
use Rattle.std.specs.FinMap as finite
use Rattle.std.proofs.lemmas.List.Elements.{All-filter}
use Rattle.std.proofs.lemmas.List.FromFn.{get_or-range_with_len, length-range_with_len}
use Rattle.live.specs.Graph.{references_only, same}
use Rattle.live.specs.Numbering.{Row, graph_of, path_at, paths_of}
use Rattle.live.specs.Reach.{reaches, refers_to_any}
use Rattle.model.specs.World.{Path, World}
use Rattle.tables_outline.specs.Outline.{OutlineValue, outline_of}
use Rattle.model.specs.Liveness as spec
use Rattle.store_reach.specs.Linked.{graph_in, rows_in}
use Rattle.store_reach.proofs.Places.{unreached}
use Rattle.store_reach.proofs.Rising.{paths_in}
use Rattle.store_reach.proofs.Reported.{graph_reported, paths_reported}

-- ---- places within

below : (n : ℕ) → All (λ k. k < n) (range_with_len 0 n)
below n k d l =
    let inside : k < n = (let a = length-range_with_len 0 n in omega (arith, l, a)) in
    let at = get_or-range_with_len 0 n k d inside in
    omega (arith, at, inside)

-- those of a range that pass
pub within : (p : ℕ → Bool) (n m : ℕ) → n ≡ m → (ks places : List ℕ) → ks ≡ places
    → places ≡ filter p (range_with_len 0 n) → All (λ k. k < m) ks
within p n m e ks places a b =
    subst (λ (xs : List ℕ). All (λ k. k < m) xs) (sym (a ∙ b))
    (subst (λ (j : ℕ). All (λ k. k < j) (filter p (range_with_len 0 n))) e
    (All-filter p (λ k. k < n) (range_with_len 0 n) (below n)))

consumed : {X : Type 0} (f : ℕ → X) (ks : List ℕ) (i : ℕ) → i < length ks
    → map f (take i ks) ++ f (get_or ks i 0) ∷ [] ≡ map f (take (suc i) ks)
consumed f [] i h = absurd (omega (arith, h))
consumed f (k ∷ ks) zero h = refl
consumed f (k ∷ ks) (suc i) h = ap (λ xs. f k ∷ xs) (consumed f ks i (omega (arith, h)))

-- one more
pub consumed_more : {X : Type 0} (f : ℕ → X) (ks : List ℕ) (i : ℕ) → i < length ks
    → map f (take i ks) ++ f (get_or ks i 0) ∷ [] ≡ map f (take (i + 1) ks)
consumed_more f ks i h = consumed f ks i h ∙ ap (λ n. map f (take n ks)) one
  where
    one : suc i ≡ i + 1
    one = omega arith

-- ---- the paths that go

module _ (o : OutlineValue) (rows again : List Row) (is : rows ≡ rows_in o) (is_again : again ≡ rows_in o)
    (places passed : List ℕ) (same_places : passed ≡ places) (named : List Path)
    (those : (test : Path → Bool) → ((p : Path) → filter (same p) (paths_of rows) ≡ [] → test p ≡ false)
    → list_any test (map (path_at rows) places) ≡ list_any test named) where
  goes : (p : Path) → refers_to_any (graph_in o) (map (path_at (rows_in o)) places) p
      ≡ refers_to_any (graph_in o) named p
  goes p =
      ap (λ rs. list_any (reaches references_only (graph_in o) p) (map (path_at rs) places)) (sym is)
      ∙ those (reaches references_only (graph_in o) p) (λ q none. unreached references_only o rows p q is none)

  pub deleted_in : filter (refers_to_any (graph_of again) (map (path_at again) passed)) (paths_of again)
      ≡ filter (refers_to_any (graph_in o) named) (finite.keys o.objects)
  deleted_in =
      (λ i. filter (refers_to_any (graph_of (is_again i)) (map (path_at (is_again i)) (same_places i)))
      (paths_of (is_again i)))
      ∙ (λ i. filter (λ p. goes p i) (paths_in o i))

pub deleted_reported : (o : OutlineValue) (named : List Path) (w : World) → outline_of w ≡ o
    → filter (refers_to_any (graph_in o) named) (finite.keys o.objects) ≡ spec.deleted_paths w named
deleted_reported o named w reported =
    λ i. filter (λ p. refers_to_any (graph_reported w o reported i) named p) (paths_reported w o reported i)
