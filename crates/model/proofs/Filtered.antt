-- Members of mapped, filtered and joined lists.
use Rattle.std.proofs.Common.{◌≡◌, List, [], ◌∷◌, ◌++◌, map, Bool, true, false, cond, refl, sym, ap, ◌∙◌, IsTrue, subst}
use Rattle.std.proofs.Common.{inl, inr, ◌⊎◌}
use Rattle.std.specs.Prelude.{Contains}
use Rattle.std.specs.List.{filter, flat_map}
use Rattle.std.proofs.lemmas.Bool.{false≢true}
use Rattle.std.proofs.lemmas.List.Elements.{Contains-append_left, Contains-append_right, Contains-append_cases}
use Rattle.live.proofs.Members.{at_head, behind, cases, no_member}

module _ {X Y : Type 0} (f : X → Y) where
  pub in_mapped : (xs : List X) (x : X) → Contains xs x → Contains (map f xs) (f x)
  in_mapped [] x c = absurd (no_member x c)
  in_mapped (z ∷ zs) x c = elim (cases z x zs c) as (λ _. Contains (f z ∷ map f zs) (f x)) [
    | inl e ↦ subst (λ u. Contains (f z ∷ map f zs) (f u)) e (at_head (f z) (map f zs))
    | inr later ↦ behind (f z) (f x) (map f zs) (in_mapped zs x later)
  ]

  pub from_mapped : (xs : List X) (y : Y) → Contains (map f xs) y → (x : X) × Contains xs x × (f x ≡ y)
  from_mapped [] y c = absurd (no_member y c)
  from_mapped (z ∷ zs) y c = elim (cases (f z) y (map f zs) c) as (λ _. (x : X) × Contains (z ∷ zs) x × (f x ≡ y)) [
    | inl e ↦ (z, at_head z zs, e)
    | inr later ↦ let rest = from_mapped zs y later in (rest.0, behind z rest.0 zs rest.1, rest.2)
  ]

pub in_joined : {X Y : Type 0} (f : X → List Y) (xs : List X) (x : X) (y : Y) → Contains xs x → Contains (f x) y
    → Contains (flat_map f xs) y
in_joined f [] x y c d = absurd (no_member x c)
in_joined f (z ∷ zs) x y c d = elim (cases z x zs c) as (λ _. Contains (f z ++ flat_map f zs) y) [
  | inl e ↦ Contains-append_left (f z) (flat_map f zs) y (subst (λ u. Contains (f u) y) (sym e) d)
  | inr later ↦ Contains-append_right (f z) (flat_map f zs) y (in_joined f zs x y later d)
]

pub from_joined : {X Y : Type 0} (f : X → List Y) (xs : List X) (y : Y) → Contains (flat_map f xs) y
    → (x : X) × Contains xs x × Contains (f x) y
from_joined f [] y c = absurd (no_member y c)
from_joined {X} {Y} f (z ∷ zs) y c =
    elim (Contains-append_cases (f z) (flat_map f zs) y c) as (λ _. (x : X) × Contains (z ∷ zs) x × Contains (f x) y) [
      | inl here ↦ (z, at_head z zs, here)
      | inr later ↦ let rest = from_joined f zs y later in (rest.0, behind z rest.0 zs rest.1, rest.2)
    ]

module _ {X : Type 0} (p : X → Bool) where
  pub in_filtered : (xs : List X) (x : X) → Contains xs x → IsTrue (p x) → Contains (filter p xs) x
  in_filtered [] x c t = c
  in_filtered (z ∷ zs) x c t = by (p z) refl (cases z x zs c) (λ later. in_filtered zs x later t)
    where
      by : (b : Bool) → p z ≡ b → (z ≡ x) ⊎ Contains zs x → (Contains zs x → Contains (filter p zs) x)
          → Contains (cond b (z ∷ filter p zs) (filter p zs)) x
      by true e (inl same) more = subst (λ u. Contains (z ∷ filter p zs) u) same (at_head z (filter p zs))
      by true e (inr later) more = behind z x (filter p zs) (more later)
      by false e (inl same) more = absurd (false≢true (sym e ∙ ap p same ∙ t))
      by false e (inr later) more = more later

  pub from_filtered : (xs : List X) (x : X) → Contains (filter p xs) x → Contains xs x × IsTrue (p x)
  from_filtered [] x c = absurd (no_member x c)
  from_filtered (z ∷ zs) x c = by (p z) refl c (from_filtered zs x)
    where
      by : (b : Bool) → p z ≡ b → Contains (cond b (z ∷ filter p zs) (filter p zs)) x
          → (Contains (filter p zs) x → Contains zs x × IsTrue (p x)) → Contains (z ∷ zs) x × IsTrue (p x)
      by true e c more = elim (cases z x (filter p zs) c) as (λ _. Contains (z ∷ zs) x × IsTrue (p x)) [
        | inl same ↦ (subst (λ u. Contains (z ∷ zs) u) same (at_head z zs), ap p (sym same) ∙ e)
        | inr later ↦ let rest = more later in (behind z x zs rest.0, rest.1)
      ]
      by false e c more = let rest = more c in (behind z x zs rest.0, rest.1)
