-- The values of a key, entry by entry.
use Rattle.std.proofs.Common.{◌≡◌, ℕ, suc, ◌+◌, ◌<◌, List, [], ◌∷◌, ◌++◌, Bool, true, false, cond, ◌&&◌, ◌||◌, length}
use Rattle.std.proofs.Common.{take, drop, get_or, Option, Some, None, refl, sym, ap, ◌∙◌}
use Rattle.std.specs.Prelude.{map, option_map}
use Rattle.std.specs.Option.{option_and_then}
use Rattle.std.specs.List.{list_all, list_any}
use Rattle.std.specs.Str.{bytes_eq}
use Rattle.std.specs.Borrow.{Bor}
use Rattle.std.proofs.Math.Seq.{drop-cons}
use Rattle.std.proofs.Common.{take-append-drop}
use Rattle.std.proofs.lemmas.List.{take_more, map-append}
use Rattle.wire_bodies.specs.Lines.{Entry}
use Rattle.wire_bodies.specs.Values.{values, single, optional, each, Are}
use Rattle.wire_bodies.specs.declared.entries.Found.TheVariants as found

-- ---- values

pub values_yes : (key : List ℕ) (es : List Entry) (e : Entry) → bytes_eq e.0 key ≡ true
    → values key (es ++ e ∷ []) ≡ values key es ++ e.1 ∷ []
values_yes key [] e h = rw h refl
values_yes key (d ∷ es) e h = by (values_yes key es e h) (bytes_eq d.0 key)
  where
    by : values key (es ++ e ∷ []) ≡ values key es ++ e.1 ∷ [] → (b : Bool)
        → cond b (d.1 ∷ values key (es ++ e ∷ [])) (values key (es ++ e ∷ []))
        ≡ cond b (d.1 ∷ values key es) (values key es) ++ e.1 ∷ []
    by ih true = ap (λ t. d.1 ∷ t) ih
    by ih false = ih

pub values_no : (key : List ℕ) (es : List Entry) (e : Entry) → bytes_eq e.0 key ≡ false
    → values key (es ++ e ∷ []) ≡ values key es
values_no key [] e h = rw h refl
values_no key (d ∷ es) e h = by (values_no key es e h) (bytes_eq d.0 key)
  where
    by : values key (es ++ e ∷ []) ≡ values key es → (b : Bool)
        → cond b (d.1 ∷ values key (es ++ e ∷ [])) (values key (es ++ e ∷ []))
        ≡ cond b (d.1 ∷ values key es) (values key es)
    by ih true = ap (λ t. d.1 ∷ t) ih
    by ih false = ih

pub values-append : (key : List ℕ) (es fs : List Entry) → values key (es ++ fs) ≡ values key es ++ values key fs
values-append key [] fs = refl
values-append key (d ∷ es) fs = by (values-append key es fs) (bytes_eq d.0 key)
  where
    by : values key (es ++ fs) ≡ values key es ++ values key fs → (b : Bool)
        → cond b (d.1 ∷ values key (es ++ fs)) (values key (es ++ fs))
        ≡ cond b (d.1 ∷ values key es) (values key es) ++ values key fs
    by ih true = ap (λ t. d.1 ∷ t) ih
    by ih false = ih

-- ---- one more item, and the items round one

map_more : {X Y : Type 0} (g : X → Y) (xs : List X) (i : ℕ) (d : X) → i < length xs
    → map g (take (i + 1) xs) ≡ map g (take i xs) ++ g (get_or xs i d) ∷ []
map_more g xs i d h = ap (map g) (take_more xs i d h) ∙ map-append g (take i xs) (get_or xs i d ∷ [])

round : {X : Type 0} (xs : List X) (i : ℕ) (d : X) → i < length xs → xs ≡ take i xs ++ get_or xs i d ∷ drop (suc i) xs
round xs i d h = sym (take-append-drop i xs) ∙ ap (λ t. take i xs ++ t) (drop-cons xs i d h)

map_round : {X Y : Type 0} (g : X → Y) (xs : List X) (i : ℕ) (d : X) → i < length xs
    → map g xs ≡ map g (take i xs) ++ g (get_or xs i d) ∷ map g (drop (suc i) xs)
map_round g xs i d h = ap (map g) (round xs i d h) ∙ map-append g (take i xs) (get_or xs i d ∷ drop (suc i) xs)

-- ---- tests

module _ {X : Type 0} (p : X → Bool) where
  any_no : (xs : List X) (y : X) → list_any p xs ≡ false → p y ≡ false → list_any p (xs ++ y ∷ []) ≡ false
  any_no [] y e f = rw f refl
  any_no (x ∷ xs) y e f = by (p x) e (any_no xs y)
    where
      by : (b : Bool) → (b || list_any p xs) ≡ false
          → (list_any p xs ≡ false → p y ≡ false → list_any p (xs ++ y ∷ []) ≡ false)
          → (b || list_any p (xs ++ y ∷ [])) ≡ false
      by true e ih = e
      by false e ih = ih e f

  any_here : (xs : List X) (y : X) (ys : List X) → p y ≡ true → list_any p (xs ++ y ∷ ys) ≡ true
  any_here [] y ys f = rw f refl
  any_here (x ∷ xs) y ys f = by (p x) (any_here xs y ys f)
    where
      by : (b : Bool) → list_any p (xs ++ y ∷ ys) ≡ true → (b || list_any p (xs ++ y ∷ ys)) ≡ true
      by true ih = refl
      by false ih = ih

  pub all_yes : (xs : List X) (y : X) → list_all p xs ≡ true → p y ≡ true → list_all p (xs ++ y ∷ []) ≡ true
  all_yes [] y e f = rw f refl
  all_yes (x ∷ xs) y e f = by (p x) e (all_yes xs y)
    where
      by : (b : Bool) → (b && list_all p xs) ≡ true
          → (list_all p xs ≡ true → p y ≡ true → list_all p (xs ++ y ∷ []) ≡ true)
          → (b && list_all p (xs ++ y ∷ [])) ≡ true
      by true e ih = ih e f
      by false e ih = e

  pub all_here : (xs : List X) (y : X) (ys : List X) → p y ≡ false → list_all p (xs ++ y ∷ ys) ≡ false
  all_here [] y ys f = rw f refl
  all_here (x ∷ xs) y ys f = by (p x) (all_here xs y ys f)
    where
      by : (b : Bool) → list_all p (xs ++ y ∷ ys) ≡ false → (b && list_all p (xs ++ y ∷ ys)) ≡ false
      by true ih = ih
      by false ih = refl

-- ---- the loop over keys

module _ (keys : List (Bor (List ℕ))) (i : ℕ) (d : Bor (List ℕ)) (h : i < length keys) (p : List ℕ → Bool) where
  pub none_so_far : list_any p (map (λ (k : Bor (List ℕ)). k.now) (take i keys)) ≡ false
      → p (get_or keys i d).now ≡ false
      → list_any p (map (λ (k : Bor (List ℕ)). k.now) (take (i + 1) keys)) ≡ false
  none_so_far so_far other =
      ap (list_any p) (map_more (λ (k : Bor (List ℕ)). k.now) keys i d h)
      ∙ any_no p (map (λ (k : Bor (List ℕ)). k.now) (take i keys)) (get_or keys i d).now so_far other

  pub some_key : p (get_or keys i d).now ≡ true → list_any p (map (λ (k : Bor (List ℕ)). k.now) keys) ≡ true
  some_key same =
      ap (list_any p) (map_round (λ (k : Bor (List ℕ)). k.now) keys i d h)
      ∙ any_here p (map (λ (k : Bor (List ℕ)). k.now) (take i keys)) (get_or keys i d).now
      (map (λ (k : Bor (List ℕ)). k.now) (drop (suc i) keys)) same

-- ---- each value

module _ {A : Type 0} (f : List ℕ → Option A) where
  pub each_more : (vs : List (List ℕ)) (v : List ℕ) (xs : List A) (x : A) → each f vs ≡ Some xs → f v ≡ Some x
      → each f (vs ++ v ∷ []) ≡ Some (xs ++ x ∷ [])
  each_more [] v xs x e g =
      let none : [] ≡ xs = cc in
      rw g (ap (λ t. Some (t ++ x ∷ [])) none)
  each_more (u ∷ vs) v xs x e g = by (f u) (each f vs) refl e (λ ys is. each_more vs v ys x is g)
    where
      by : (o : Option A) (r : Option (List A)) → each f vs ≡ r
          → option_and_then (λ y. option_map (λ ys. y ∷ ys) r) o ≡ Some xs
          → ((ys : List A) → each f vs ≡ Some ys → each f (vs ++ v ∷ []) ≡ Some (ys ++ x ∷ []))
          → option_and_then (λ y. option_map (λ ys. y ∷ ys) (each f (vs ++ v ∷ []))) o ≡ Some (xs ++ x ∷ [])
      by None r is e ih = let h : None ≡ Some xs = e in cc
      by (Some y) None is e ih = let h : None ≡ Some xs = e in cc
      by (Some y) (Some ys) is e ih =
          let same : y ∷ ys ≡ xs = cc in
          ap (option_map (λ zs. y ∷ zs)) (ih ys is) ∙ ap (λ t. Some (t ++ x ∷ [])) same

  pub each_none : (vs : List (List ℕ)) (v : List ℕ) (ws : List (List ℕ)) → f v ≡ None → each f (vs ++ v ∷ ws) ≡ None
  each_none [] v ws g = rw g refl
  each_none (u ∷ vs) v ws g =
      ap (λ r. option_and_then (λ y. option_map (λ ys. y ∷ ys) r) (f u)) (each_none vs v ws g) ∙ by (f u)
    where
      by : (o : Option A) → option_and_then (λ y. option_map (λ ys. y ∷ ys) None) o ≡ None
      by None = refl
      by (Some y) = refl

  -- ---- one value or none

  pub single_one : (vs : List (List ℕ)) (w : Bor (List ℕ)) → Are vs (found.One w) → single f vs ≡ f w.now
  single_one [] w are = absurd are
  single_one (v ∷ []) w are = ap f (sym are)
  single_one (v ∷ u ∷ vs) w are = absurd are

  pub single_none : (vs : List (List ℕ)) → Are vs found.None → single f vs ≡ None
  single_none [] are = refl
  single_none (v ∷ []) are = absurd are
  single_none (v ∷ u ∷ vs) are = absurd are

  pub single_more : (vs : List (List ℕ)) → Are vs found.More → single f vs ≡ None
  single_more [] are = absurd are
  single_more (v ∷ []) are = absurd are
  single_more (v ∷ u ∷ vs) are = refl

  pub optional_one : (vs : List (List ℕ)) (w : Bor (List ℕ)) (o : Option A) → Are vs (found.One w) → f w.now ≡ o
      → optional f vs ≡ option_map (λ x. Some x) o
  optional_one [] w o are is = absurd are
  optional_one (v ∷ []) w o are is =
      ap (λ t. option_map (λ x. Some x) (f t)) (sym are) ∙ ap (option_map (λ x. Some x)) is
  optional_one (v ∷ u ∷ vs) w o are is = absurd are

  pub optional_none : (vs : List (List ℕ)) → Are vs found.None → optional f vs ≡ Some None
  optional_none [] are = refl
  optional_none (v ∷ []) are = absurd are
  optional_none (v ∷ u ∷ vs) are = absurd are

  pub optional_more : (vs : List (List ℕ)) → Are vs found.More → optional f vs ≡ None
  optional_more [] are = absurd are
  optional_more (v ∷ []) are = absurd are
  optional_more (v ∷ u ∷ vs) are = refl
