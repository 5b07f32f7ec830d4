-- What the loop over an array of entries keeps: what is read so far, before what the rest gives.
use Rattle.std.proofs.Common.{◌≡◌, ℕ, ◌+◌, ◌<◌, Bool, ◌||◌, List, [], ◌∷◌, ◌++◌, length, drop, get_or, Option, Some}
use Rattle.std.proofs.Common.{None, option_map, map, refl, ap, append_assoc}
use Rattle.std.specs.List.{list_any}
use Rattle.toml.specs.View.{view, items_view}
use Rattle.toml.specs.declared.value.Value.{Value}
use Rattle.toml.proofs.Views.{items_view-drop}
use Rattle.policy.specs.Settings.{Entry}
use Rattle.policy.specs.Toml.{each_entry, before, entry_of}

-- the entries, before what the rest gives
abbrev pub prepend : List Entry → Option (List Entry) → Option (List Entry)
prepend xs rest = option_map (λ ys. xs ++ ys) rest

pub prepend-nil : (rest : Option (List Entry)) → prepend [] rest ≡ rest
prepend-nil None = refl
prepend-nil (Some ys) = refl

-- one more
pub prepend-before : (xs : List Entry) (y : Entry) (rest : Option (List Entry))
    → prepend xs (before (Some y) rest) ≡ prepend (xs ++ y ∷ []) rest
prepend-before xs y None = refl
prepend-before xs y (Some ys) = ap Some (rw append_assoc)

-- the item at an index, and those after it
pub each_entry-drop : (vs : List Value) (i : ℕ) (d : Value) → i < length vs
    → each_entry (items_view (drop i vs))
    ≡ before (entry_of (view (get_or vs i d))) (each_entry (items_view (drop (i + 1) vs)))
each_entry-drop vs i d h = rw (items_view-drop vs i d h)

pub map-push : {A B : Type 0} (f : A → B) (xs : List A) (y : A) → map f (xs ++ y ∷ []) ≡ map f xs ++ f y ∷ []
map-push f [] y = refl
map-push f (x ∷ xs) y = ap (λ zs. f x ∷ zs) (map-push f xs y)

-- a test of what each element stands for
pub list_any-map : {A B : Type 0} (test : B → Bool) (f : A → B) (xs : List A)
    → list_any (λ x. test (f x)) xs ≡ list_any test (map f xs)
list_any-map test f [] = refl
list_any-map test f (x ∷ xs) = ap (λ b. test (f x) || b) (list_any-map test f xs)
