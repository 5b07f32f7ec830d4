-- Loops that go over entries and put their roots among the others.
use Rattle.std.proofs.Common.{◌≡◌, List, [], ◌∷◌, ◌++◌, map, refl, ap, ◌∙◌, subst}
use Rattle.std.specs.List.{flat_map}
use Rattle.std.specs.List.Sorted.{IsStrictlySortedBy}
use Rattle.std.specs.declared.cmp.Ordering.{Ordering}
use Rattle.paths.specs.Root.{Root, Set, root_cmp}
use Rattle.tables_outline.specs.Gaining.{Gains}
use Rattle.tables_outline.proofs.Sets.{Fills, filled_more, filled}

pub map-map : {A B C : Type 0} (f : A → B) (g : B → C) (xs : List A) → map g (map f xs) ≡ map (λ x. g (f x)) xs
map-map f g [] = refl
map-map f g (x ∷ xs) = ap (λ l. g (f x) ∷ l) (map-map f g xs)

pub flat-map : {A B C : Type 0} (f : A → B) (g : B → List C) (xs : List A)
    → flat_map g (map f xs) ≡ flat_map (λ x. g (f x)) xs
flat-map f g [] = refl
flat-map f g (x ∷ xs) = ap (λ l. g (f x) ++ l) (flat-map f g xs)

module _ {E : Type 0} where
  -- the root of the first entry is put among the others
  pub one_more : (f : E → Root) (old : Set root_cmp) (all : List Root) (now new : Set root_cmp) (s t : List E) (e : E)
      (r : Root) → r ≡ f e → s ≡ e ∷ t
      → Gains root_cmp now (r ∷ []) new → Fills root_cmp old all now (map f s) → Fills root_cmp old all new (map f t)
  one_more f old all now new s t e r is first gains fills =
      filled_more root_cmp old all now new (f e ∷ []) (map f t)
      (subst (λ (x : Root). Gains root_cmp now (x ∷ []) new) is gains)
      (subst (λ (l : List E). Fills root_cmp old all now (map f l)) first fills)

  -- the roots of the first entry are put among the others
  pub some_more : (f : E → List Root) (old : Set root_cmp) (all : List Root) (now new : Set root_cmp) (s t : List E)
      (e : E) → s ≡ e ∷ t
      → Gains root_cmp now (f e) new → Fills root_cmp old all now (flat_map f s)
      → Fills root_cmp old all new (flat_map f t)
  some_more f old all now new s t e first gains fills =
      filled_more root_cmp old all now new (f e) (flat_map f t) gains
      (subst (λ (l : List E). Fills root_cmp old all now (flat_map f l)) first fills)

  -- none is left
  pub no_more : (roots : List E → List Root) (none : roots [] ≡ []) (old : Set root_cmp) (all given : List Root)
      (now : Set root_cmp) (s : List E) → s ≡ [] → all ≡ given
      → Fills root_cmp old all now (roots s) → Gains root_cmp old given now
  no_more roots none old all given now s empty is fills =
      subst (λ (l : List Root). Gains root_cmp old l now) is
      (filled root_cmp old all now (roots s) (ap roots empty ∙ none) fills)

-- keys in one order are in another that agrees with it
pub sorted_by : {K : Type 0} (C D : K → K → Ordering) → ((a b : K) → C a b ≡ D a b) → (keys : List K)
    → IsStrictlySortedBy C keys → IsStrictlySortedBy D keys
sorted_by {K} C D agree keys h = let both : C ≡ D =
    λ i a b. agree a b i in subst (λ (E : K → K → Ordering). IsStrictlySortedBy E keys) both h
