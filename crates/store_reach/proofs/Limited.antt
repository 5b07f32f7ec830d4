-- What a collection up to a limit takes.
use Rattle.std.proofs.Common.{◌≡◌, ℕ, ◌<◌, List, [], ◌∷◌, map, length, zero, suc, not, refl, ap, ◌∙◌, arith}
use Rattle.std.specs.Prelude.{filter, Some}
use Rattle.std.specs.List.{slice_index}
use Rattle.paths.specs.Root.{Root}
use Rattle.live.specs.Graph.{Keep}
use Rattle.live.specs.Arguments.{rows_view}
use Rattle.live.specs.Limited.{limited_paths}
use Rattle.live.specs.Live.{is_live}
use Rattle.live.specs.Numbering.{Row, graph_of, path_at}
use Rattle.live.specs.Reach.{reaches}
use Rattle.live.specs.declared.numbered.rows.Row.{Row as Handed}
use Rattle.policy.specs.Settings.{Settings}
use Rattle.model.specs.World.{Path, World, roots_of}
use Rattle.tables_outline.specs.Outline.{OutlineValue, outline_of}
use Rattle.model.specs.Liveness.{keep_of, lives, collected_paths}
use Rattle.store_reach.specs.Linked.{rows_in}
use Rattle.tables_outline.specs.Rooted.{rooted}
use Rattle.store_reach.specs.Sizes.{size_in}
use Rattle.store_reach.proofs.Sized.{sizes_reported}
use Rattle.store_reach.proofs.Reported.{graph_reported, lives_reported}
use Rattle.store_reach.proofs.Valid.{aims_well, any_kept, reaches_from_valid}

-- each path has its size at its place
pub sized : (f : Path → ℕ) (rows : List Handed) (i : ℕ) → i < length (rows_view rows)
    → f (path_at (rows_view rows) i) ≡ slice_index (map (λ (r : Handed). f r.path.now) rows) i
sized f [] i h = absurd (omega (arith, h))
sized f (r ∷ rs) zero h = refl
sized f (r ∷ rs) (suc i) h = sized f rs i (omega (arith, h))

module _ (s : Settings) (o : OutlineValue) (keep : Keep) (rows : List Row) (valid : List Root) (kept : keep ≡ keep_of s)
    (is : rows ≡ rows_in o) (same : valid ≡ filter (aims_well o) (roots_of (rooted o)))
    (w : World) (reported : outline_of w ≡ o) where
  lives_so : (p : Path) → is_live keep (graph_of rows) valid p ≡ lives s w p
  lives_so p =
      (λ i. is_live (kept i) (graph_of (is i)) (same i) p)
      ∙ any_kept (λ (r : Root). reaches (keep_of s) (graph_of (rows_in o)) r.target p) (aims_well o)
      (λ r h. reaches_from_valid (keep_of s) o r.target p h) (roots_of (rooted o))
      ∙ (λ i. lives_reported s w o reported i p)

  pub limited_reported : (limit : ℕ)
      → limited_paths (graph_of rows) (λ p. not (is_live keep (graph_of rows) valid p)) (size_in o) limit
      ≡ collected_paths s w (Some limit)
  limited_reported limit =
      let graph = ap graph_of is ∙ graph_reported w o reported in
      λ i. limited_paths (graph i) (λ p. not (lives_so p i)) (sizes_reported w o reported i) limit
