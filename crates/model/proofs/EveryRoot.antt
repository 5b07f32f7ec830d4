-- Each entry of a table of roots is a root, and no other root is.
use Rattle.std.proofs.Common.{◌++◌, map, inl, inr}
use Rattle.std.specs.Prelude.{Contains}
use Rattle.std.specs.List.{flat_map}
use Rattle.std.specs.Cmp.{nat_cmp_total}
use Rattle.std.specs.Cmp.Lexicographic.{nat_list_cmp_total}
use Rattle.std.specs.FinMap as finite
use Rattle.std.proofs.lemmas.List.Elements.{Contains-append_left, Contains-append_right, Contains-append_cases}
use Rattle.paths.specs.Root.{Root}
use Rattle.live.proofs.Order.{ordered_member, member_ordered}
use Rattle.model.specs.World.{World, permanent_root, user_root, generation_root, generation_roots, runtime_root}
use Rattle.model.specs.World.{temporary_root, explicit_roots, runtime_roots, temporary_roots, roots_of}
use Rattle.model.specs.Entries.{HasEachRoot, IsEntry, of_permanent, of_user, of_generation, of_runtime, of_temporary}
use Rattle.model.proofs.MapMembers.{bytes_antisymmetric, pair_antisymmetric, pair_total, temporary_antisymmetric}
use Rattle.model.proofs.MapMembers.{temporary_total, key_listed, listed_key, entry_listed, listed_entry}
use Rattle.model.proofs.Filtered.{in_mapped, from_mapped, in_joined, from_joined}

module _ (w : World) where
  until_runtime : (r : Root) → Contains (explicit_roots w ++ runtime_roots w) r → Contains (roots_of w) r
  until_runtime r c =
      ordered_member (explicit_roots w ++ runtime_roots w ++ temporary_roots w) r
      (Contains-append_left (explicit_roots w ++ runtime_roots w) (temporary_roots w) r c)

  remaining : (r : Root) → Contains (explicit_roots w) r → Contains (roots_of w) r
  remaining r c = until_runtime r (Contains-append_left (explicit_roots w) (runtime_roots w) r c)

  first_two : (r : Root) → Contains
      (map permanent_root (finite.entries w.permanent) ++ map user_root (finite.entries w.user_roots)) r
      → Contains (roots_of w) r
  first_two r c =
      remaining r (Contains-append_left
      (map permanent_root (finite.entries w.permanent) ++ map user_root (finite.entries w.user_roots))
      (flat_map generation_roots (finite.entries w.profiles)) r c)

  permanent_entry : (r : Root) → Contains (map permanent_root (finite.entries w.permanent)) r → IsEntry w r
  permanent_entry r c =
      let e = from_mapped permanent_root (finite.entries w.permanent) r c in
      of_permanent e.0.0 e.0.1 (listed_entry nat_list_cmp_total w.permanent e.0 e.1) e.2

  user_entry : (r : Root) → Contains (map user_root (finite.entries w.user_roots)) r → IsEntry w r
  user_entry r c =
      let e = from_mapped user_root (finite.entries w.user_roots) r c in
      of_user e.0.0 e.0.1 (listed_entry pair_total w.user_roots e.0 e.1) e.2

  generation_entry : (r : Root) → Contains (flat_map generation_roots (finite.entries w.profiles)) r → IsEntry w r
  generation_entry r c =
      let e = from_joined generation_roots (finite.entries w.profiles) r c in
      let g = from_mapped (generation_root e.0.0) (finite.entries e.0.1.generations) r e.2 in
      of_generation e.0.0 e.0.1 g.0.0 g.0.1 (listed_entry pair_total w.profiles e.0 e.1)
      (listed_entry nat_cmp_total e.0.1.generations g.0 g.1) g.2

  runtime_entry : (r : Root) → Contains (runtime_roots w) r → IsEntry w r
  runtime_entry r c =
      let e = from_mapped runtime_root (finite.keys w.runtime) r c in
      of_runtime e.0 (listed_key pair_total w.runtime e.0 e.1) e.2

  temporary_entry : (r : Root) → Contains (temporary_roots w) r → IsEntry w r
  temporary_entry r c =
      let e = from_mapped temporary_root (finite.keys w.temporary) r c in
      of_temporary e.0 (listed_key temporary_total w.temporary e.0 e.1) e.2

  dropped_entry : (r : Root) → Contains
      (map permanent_root (finite.entries w.permanent) ++ map user_root (finite.entries w.user_roots)) r → IsEntry w r
  dropped_entry r c =
      elim (Contains-append_cases (map permanent_root (finite.entries w.permanent))
      (map user_root (finite.entries w.user_roots)) r c) as (λ _. IsEntry w r) [
        | inl first ↦ permanent_entry r first
        | inr second ↦ user_entry r second
      ]

  remaining_entry : (r : Root) → Contains (explicit_roots w) r → IsEntry w r
  remaining_entry r c =
      elim (Contains-append_cases (map permanent_root (finite.entries w.permanent)
      ++ map user_root (finite.entries w.user_roots)) (flat_map generation_roots (finite.entries w.profiles)) r
      c)
      as (λ _. IsEntry w r) [ inl named ↦ dropped_entry r named | inr generation ↦ generation_entry r generation ]

  until_runtime_entry : (r : Root) → Contains (explicit_roots w ++ runtime_roots w) r → IsEntry w r
  until_runtime_entry r c =
      elim (Contains-append_cases (explicit_roots w) (runtime_roots w) r c)
      as (λ _. IsEntry w r) [ inl last ↦ remaining_entry r last | inr run ↦ runtime_entry r run ]

  no_other_root : (r : Root) → Contains (roots_of w) r → IsEntry w r
  no_other_root r c =
      elim (Contains-append_cases (explicit_roots w ++ runtime_roots w) (temporary_roots w) r
      (member_ordered (explicit_roots w ++ runtime_roots w ++ temporary_roots w) r c))
      as (λ _. IsEntry w r) [ inl early ↦ until_runtime_entry r early | inr temp ↦ temporary_entry r temp ]

  pub each_root : HasEachRoot w
  each_root = record {
    permanent =
        λ name t e. first_two (permanent_root (name, t))
        (Contains-append_left (map permanent_root (finite.entries w.permanent))
        (map user_root (finite.entries w.user_roots)) (permanent_root (name, t))
        (in_mapped permanent_root (finite.entries w.permanent) (name, t)
        (entry_listed bytes_antisymmetric w.permanent name t e)));
    user =
        λ owned t e. first_two (user_root (owned, t))
        (Contains-append_right (map permanent_root (finite.entries w.permanent))
        (map user_root (finite.entries w.user_roots)) (user_root (owned, t))
        (in_mapped user_root (finite.entries w.user_roots) (owned, t)
        (entry_listed pair_antisymmetric w.user_roots owned t e)));
    generation =
        λ owned p n t e f. remaining (generation_root owned (n, t))
        (Contains-append_right (map permanent_root (finite.entries w.permanent)
        ++ map user_root (finite.entries w.user_roots)) (flat_map generation_roots (finite.entries w.profiles))
        (generation_root owned (n, t))
        (in_joined generation_roots (finite.entries w.profiles) (owned, p) (generation_root owned (n, t))
        (entry_listed pair_antisymmetric w.profiles owned p e)
        (in_mapped (generation_root owned) (finite.entries p.generations) (n, t)
        (entry_listed finite.nat_cmp-IsAntisymmetric p.generations n t f))));
    runtime =
        λ r h. until_runtime (runtime_root r)
        (Contains-append_right (explicit_roots w) (runtime_roots w) (runtime_root r)
        (in_mapped runtime_root (finite.keys w.runtime) r (key_listed pair_antisymmetric w.runtime r h)));
    temporary =
        λ t h. ordered_member (explicit_roots w ++ runtime_roots w ++ temporary_roots w) (temporary_root t)
        (Contains-append_right (explicit_roots w ++ runtime_roots w) (temporary_roots w) (temporary_root t)
        (in_mapped temporary_root (finite.keys w.temporary) t (key_listed temporary_antisymmetric w.temporary t h)));
    no_other = no_other_root;
  }
