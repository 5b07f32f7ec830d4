-- What doesn't depend on the labels of runtime roots: which roots there are but for hidden labels, and what lives.
use Rattle.std.proofs.Common.{◌≡◌, ◌++◌, map, refl, sym, ap, ◌∙◌, IsTrue, inl, inr}
use Rattle.std.specs.Prelude.{Contains}
use Rattle.std.specs.FinMap as finite
use Rattle.std.proofs.lemmas.List.Elements.{Contains-append_left, Contains-append_right, Contains-append_cases}
use Rattle.paths.specs.Root.{Set, Root}
use Rattle.live.specs.Reach.{reaches}
use Rattle.live.proofs.Members.{any_from, some_of_any}
use Rattle.live.proofs.Order.{ordered_member, member_ordered, same_bools}
use Rattle.model.specs.World.{Path, World, pair_cmp, explicit_roots, runtime_root, temporary_roots, roots_of}
use Rattle.policy.specs.Settings.{Settings}
use Rattle.model.specs.Liveness.{graph_of, keep_of, lives}
use Rattle.model.specs.Seen.{censored}
use Rattle.model.specs.Effects.{with_runtime}
use Rattle.model.specs.Labels.{TargetsAreIn}
use Rattle.model.proofs.MapMembers.{pair_total, pair_antisymmetric, key_listed, listed_key}
use Rattle.model.proofs.Filtered.{in_mapped, from_mapped}

module _ (w : World) (r1 r2 : Set pair_cmp) where
  -- each root of the one world is a root of the other, but for a runtime label
  pub like : TargetsAreIn r1 r2 → (x : Root) → Contains (roots_of (with_runtime w r1)) x
      → (y : Root) × Contains (roots_of (with_runtime w r2)) y × (censored x ≡ censored y)
  like same x c =
      elim (Contains-append_cases (explicit_roots w ++ map runtime_root (finite.keys r1)) (temporary_roots w) x
      (member_ordered _ x c)) as (λ _. (y : Root) × Contains (roots_of (with_runtime w r2)) y
      × (censored x ≡ censored y)) [
        | inl early ↦ elim (Contains-append_cases (explicit_roots w) (map runtime_root (finite.keys r1)) x
            early) as (λ _. (y : Root) × Contains (roots_of (with_runtime w r2)) y × (censored x ≡ censored y)) [
              | inl remaining ↦ (
                x,
                present x
                    (Contains-append_left (explicit_roots w) (map runtime_root (finite.keys r2)) x remaining),
                refl,
              )
              | inr now ↦
                  let p = from_mapped runtime_root (finite.keys r1) x now in
                  let q = same p.0.0 p.0.1 (listed_key pair_total r1 p.0 p.1) in
                  let other : Root = runtime_root (q.0, p.0.1) in (
                    other,
                    present other (Contains-append_right (explicit_roots w) (map runtime_root (finite.keys r2)) other
                        (in_mapped runtime_root (finite.keys r2) (q.0, p.0.1)
                        (key_listed pair_antisymmetric r2 (q.0, p.0.1) q.1))),
                    sym (ap censored p.2),
                  )
            ]
        | inr temporary ↦ (
          x,
          ordered_member (explicit_roots w ++ map runtime_root (finite.keys r2) ++ temporary_roots w) x
              (Contains-append_right (explicit_roots w ++ map runtime_root (finite.keys r2)) (temporary_roots w) x
              temporary),
          refl,
        )
      ]
    where
      present : (y : Root) → Contains (explicit_roots w ++ map runtime_root (finite.keys r2)) y
          → Contains (roots_of (with_runtime w r2)) y
      present y m =
          ordered_member (explicit_roots w ++ map runtime_root (finite.keys r2) ++ temporary_roots w) y
          (Contains-append_left (explicit_roots w ++ map runtime_root (finite.keys r2)) (temporary_roots w) y m)

  still_lives : TargetsAreIn r1 r2 → (s : Settings) (p : Path) → IsTrue (lives s (with_runtime w r1) p)
      → IsTrue (lives s (with_runtime w r2) p)
  still_lives same s p h =
      let x =
      some_of_any (λ (r : Root). reaches (keep_of s) (graph_of w) r.target p) (roots_of (with_runtime w r1)) h in
      let y = like same x.0 x.1 in
      any_from (λ (r : Root). reaches (keep_of s) (graph_of w) r.target p) (roots_of (with_runtime w r2)) y.0 y.1
      (ap (λ (t : Root). reaches (keep_of s) (graph_of w) t.target p) (sym y.2) ∙ x.2)

pub lives_alike : (s : Settings) (w : World) (r1 r2 : Set pair_cmp) → TargetsAreIn r1 r2 → TargetsAreIn r2 r1
    → (p : Path) → lives s (with_runtime w r1) p ≡ lives s (with_runtime w r2) p
lives_alike s w r1 r2 present back p = same_bools _ _ (still_lives w r1 r2 present s p) (still_lives w r2 r1 back s p)
