-- Roots by the places of their targets.
use Rattle.std.proofs.Common.{◌≡◌, ℕ, ◌+◌, ◌<◌, List, [], ◌∷◌, ◌++◌, length, get_or, Some, None, refl, sym, ap, ◌∙◌}
use Rattle.std.proofs.Common.{subst, inl, inr, arith}
use Rattle.std.specs.Prelude.{All, Contains}
use Rattle.std.specs.List.{slice_index}
use Rattle.std.proofs.lemmas.Bool.{cases_lt}
use Rattle.std.proofs.lemmas.List.{length-map, get_or-map, length_push, get_or_append_left, get_or_push, get_or_default}
use Rattle.std.proofs.lemmas.List.Elements.{All-from_get_or}
use Rattle.paths.specs.Root.{Root}
use Rattle.live.specs.Graph.{Path}
use Rattle.live.specs.Numbering.{Row as NumberedRow, paths_of, place_of, Rise, IsAimed, root_at, no_root}
use Rattle.live.specs.Arguments.{root_view, roots_view}
use Rattle.live.specs.declared.numbered.rows.Root.{Root as RawRoot}
use Rattle.live.proofs.Numberings.{place_at, at_place}

-- the first roots have their places
pub record AimsBelow (rows : List NumberedRow) (roots : List Root) (n : ℕ) (targets : List ℕ) : Type 0 where
  pub count : length targets ≡ n
  pub places : (k : ℕ) → k < n → place_of (paths_of rows) (root_at roots k).target ≡ Some (slice_index targets k)

pub aims_none : (rows : List NumberedRow) (roots : List Root) → AimsBelow rows roots 0 []
aims_none rows roots = record { count = refl; places = λ k h. absurd (omega arith) }

pub aims_more : (rows : List NumberedRow) (roots : List Root) (n : ℕ) (targets : List ℕ) (place : ℕ)
    → AimsBelow rows roots n targets → place_of (paths_of rows) (root_at roots n).target ≡ Some place
    → AimsBelow rows roots (n + 1) (targets ++ place ∷ [])
aims_more rows roots n targets place a e = record {
  count = length_push targets place ∙ ap (λ k. k + 1) a.count;
  places =
      λ k h. elim (cases_lt k n) as (λ _. place_of (paths_of rows) (root_at roots k).target
      ≡ Some (slice_index (targets ++ place ∷ []) k)) [
        | inl lt ↦ a.places k lt ∙ ap Some
            (sym (get_or_append_left targets (place ∷ []) 0 k (let c = a.count in omega arith)))
        | inr ge ↦ (let same : n ≡ k = omega arith in
            subst
            (λ j. place_of (paths_of rows) (root_at roots j).target ≡ Some (slice_index (targets ++ place ∷ []) j))
            same (e ∙ ap Some (sym (get_or_push targets place 0 n a.count))))
      ];
}

-- a valid target has a place
pub has_place : (rows : List NumberedRow) → Rise (paths_of rows) → (p : Path) → Contains (paths_of rows) p
    → place_of (paths_of rows) p ≡ None → ⊥
has_place rows rise p c none =
    let at : place_of (paths_of rows) (get_or (paths_of rows) c.0 []) ≡ Some c.0 =
    place_at (paths_of rows) rise c.0 c.1 in
    let same : get_or (paths_of rows) c.0 [] ≡ p = get_or_default (paths_of rows) c.0 [] p c.1 ∙ c.2 in
    let is = ap (place_of (paths_of rows)) same in
    cc

pub aims_all : (rows : List NumberedRow) → Rise (paths_of rows) → (roots : List Root) (n : ℕ) (targets : List ℕ)
    → n ≡ length roots → AimsBelow rows roots n targets
    → IsAimed rows roots targets × All (λ t. t < length rows) targets
aims_all rows rise roots n targets e a = (
  record { count = a.count ∙ e; places = λ k h. a.places k (omega arith) },
  All-from_get_or (λ t. t < length rows) targets 0
      (λ k h. (let p = at_place (paths_of rows) rise (root_at roots k).target (slice_index targets k)
      (a.places k (let c = a.count in omega arith)) in
      let l = p.0 in let m = length-map rows (λ (r : NumberedRow). r.0) in omega arith)),
)

pub root_is : (given : List RawRoot) (k : ℕ) (x : RawRoot) → k < length given → x ≡ get_or given k x
    → (root_at (roots_view given) k).target ≡ x.target.now
root_is given k x h is =
    ap (λ (r : Root). r.target) (get_or-map root_view given k x no_root h) ∙ ap (λ (r : RawRoot). r.target.now) (sym is)
