-- A target fits one pattern of the table at most.
use Rattle.std.proofs.Common.{◌≡◌, ℕ, List, [], ◌∷◌, Some, None, Bool, true, false, cond, ◌==◌, ◌&&◌, ◌||◌, not, inl}
use Rattle.std.proofs.Common.{inr, refl, sym, ap, subst, ◌∙◌, arith}
use Rattle.std.specs.List.{list_all}
use Rattle.std.specs.Prelude.{map}
use Rattle.matchit.proofs.OnLiterals.{matchit_on_literals}
use Rattle.std.proofs.lemmas.Bool.Decides.{nat_tests}
use Rattle.matchit.specs.Rows.{RowsOf}
use Rattle.matchit.specs.Router.{RouteOf}
use Rattle.matchit.specs.Seek.{first}
use Rattle.wire_requests.specs.declared.requests.Requests.{Requests}
use Rattle.wire_requests.specs.Patterns.{fits, suffix, is_plain}
use Rattle.wire_requests.specs.Table.{routes, table, first_fit, requests_of}
use Rattle.wire_requests.specs.Rows.{Has, AreRows, rows}
use Rattle.wire_requests.proofs.Texts.{AllBytes, and_first, and_last, not_true}
use Rattle.wire_requests.proofs.Seeking.{AllPlain, found_fits, missing_fits_none}

-- at the first token that differs there are two bytes, or a parameter and a slash, or the end of one
abbrev are_distinct : List ℕ → List ℕ → Bool
are_distinct [] [] = false
are_distinct [] (y ∷ b) = true
are_distinct (x ∷ a) [] = true
are_distinct (x ∷ a) (y ∷ b) =
    cond (x == 256) (cond (y == 256) (are_distinct a b) (y == 47))
    (cond (y == 256) (x == 47) (not (x == y) || are_distinct a b))

-- no text fits both
distinct_fits : (a b text : List ℕ) → are_distinct a b ≡ true → fits a text ≡ true → fits b text ≡ true → ⊥
distinct_fits [] [] text e f g = let h : false ≡ true = e in cc
distinct_fits [] (y ∷ b) [] e f g = let h : false ≡ true = g in cc
distinct_fits [] (y ∷ b) (c ∷ text) e f g = let h : false ≡ true = f in cc
distinct_fits (x ∷ a) [] [] e f g = let h : false ≡ true = f in cc
distinct_fits (x ∷ a) [] (c ∷ text) e f g = let h : false ≡ true = g in cc
distinct_fits (x ∷ a) (y ∷ b) [] e f g = let h : false ≡ true = f in cc
distinct_fits (x ∷ a) (y ∷ b) (c ∷ text) e f g = by (x == 256) refl (y == 256) refl e f g (distinct_fits a b)
  where
    by : (v : Bool) → (x == 256) ≡ v → (w : Bool) → (y == 256) ≡ w
        → cond v (cond w (are_distinct a b) (y == 47)) (cond w (x == 47) (not (x == y) || are_distinct a b)) ≡ true
        → cond v (not (c == 47) && fits a (suffix text)) (x == c && fits a text) ≡ true
        → cond w (not (c == 47) && fits b (suffix text)) (y == c && fits b text) ≡ true
        → ((t : List ℕ) → are_distinct a b ≡ true → fits a t ≡ true → fits b t ≡ true → ⊥) → ⊥
    by true xv true yw e f g ih =
        ih (suffix text) e (and_last (not (c == 47)) (fits a (suffix text)) f)
        (and_last (not (c == 47)) (fits b (suffix text)) g)
    by true xv false yw e f g ih =
        let no_slash = not_true (c == 47) (and_first (not (c == 47)) (fits a (suffix text)) f) in
        let same = and_first (y == c) (fits b text) g in
        grind (arith, nat_tests)
    by false xv true yw e f g ih =
        let no_slash = not_true (c == 47) (and_first (not (c == 47)) (fits b (suffix text)) g) in
        let same = and_first (x == c) (fits a text) f in
        grind (arith, nat_tests)
    by false xv false yw e f g ih = differ (x == y) refl e
      where
        differ : (d : Bool) → (x == y) ≡ d → (not d || are_distinct a b) ≡ true → ⊥
        differ true is e = ih text e (and_last (x == c) (fits a text) f) (and_last (y == c) (fits b text) g)
        differ false is e =
            let one = and_first (x == c) (fits a text) f in
            let other = and_first (y == c) (fits b text) g in
            grind (arith, nat_tests)

all_has : {A : Type 0} (p : A → Bool) (x : A) (xs : List A) → list_all p xs ≡ true → Has x xs → p x ≡ true
all_has p x [] e has = absurd has
all_has p x (y ∷ ys) e (inl is) = ap p (sym is) ∙ and_first (p y) (list_all p ys) e
all_has p x (y ∷ ys) e (inr has) = all_has p x ys (and_last (p y) (list_all p ys) e) has

-- each pattern is apart from those after it
abbrev all_distinct : List (List ℕ × Requests) → Bool
all_distinct [] = true
all_distinct (row ∷ rows) = list_all (λ other. are_distinct row.0 other.0) rows && all_distinct rows

-- the row that fits is the first that does
first_is : (text : List ℕ) (rows : List (List ℕ × Requests)) (t : List ℕ) (requests : Requests)
    → all_distinct rows ≡ true → Has (t, requests) rows → fits t text ≡ true
    → first_fit text rows ≡ Some requests
first_is text [] t requests e has f = absurd has
first_is text (row ∷ rows) t requests e (inl is) f =
    ap (λ v. cond v (Some row.1) (first_fit text rows)) (ap (λ r. fits r.0 text) is ∙ f) ∙ ap (λ r. Some r.1) is
first_is text (row ∷ rows) t requests e (inr has) f =
    by (fits row.0 text) refl (first_is text rows t requests (and_last _ (all_distinct rows) e) has f)
  where
    by : (v : Bool) → fits row.0 text ≡ v → first_fit text rows ≡ Some requests
        → cond v (Some row.1) (first_fit text rows) ≡ Some requests
    by true is ih =
        let other =
        all_has (λ o. are_distinct row.0 o.0) (t, requests) rows
        (and_first (list_all (λ o. are_distinct row.0 o.0) rows) (all_distinct rows) e) has in
        absurd (distinct_fits row.0 t text other is f)
    by false is ih = ih

none_first : (text : List ℕ) (rows : List (List ℕ × Requests))
    → ((t : List ℕ) (requests : Requests) → Has (t, requests) rows → fits t text ≡ true → ⊥)
    → first_fit text rows ≡ None
none_first text [] none = refl
none_first text (row ∷ rows) none =
    by (fits row.0 text) refl (none_first text rows (λ t requests has f. none t requests (inr has) f))
  where
    by : (v : Bool) → fits row.0 text ≡ v → first_fit text rows ≡ None
        → cond v (Some row.1) (first_fit text rows) ≡ None
    by true is ih = absurd (none row.0 row.1 (inl refl) is)
    by false is ih = ih

table_distinct : all_distinct table ≡ true
unfolding routes table
table_distinct = refl

-- ---- the rows of a router

abbrev requests_in : List ℕ × RouteOf Requests → List ℕ × Requests
requests_in row = (row.0, row.1.value)

rows_table : map requests_in rows ≡ table
unfolding routes table rows matchit_on_literals
rows_table = refl

rows_plain : list_all (λ row. is_plain row.0) rows ≡ true
unfolding routes rows matchit_on_literals
rows_plain = refl

has_map : {A B : Type 0} (f : A → B) (x : A) (xs : List A) → Has x xs → Has (f x) (map f xs)
has_map f x [] has = absurd has
has_map f x (y ∷ xs) (inl e) = inl (ap f e)
has_map f x (y ∷ xs) (inr h) = inr (has_map f x xs h)

map_has : {A B : Type 0} (f : A → B) (z : B) (xs : List A) → Has z (map f xs) → (x : A) × Has x xs × (f x ≡ z)
map_has f z [] has = absurd has
map_has f z (y ∷ xs) (inl e) = (y, inl refl, e)
map_has f z (y ∷ xs) (inr h) = let found = map_has f z xs h in (found.0, inr found.1, found.2)

module _ (rs : RowsOf (RouteOf Requests)) (are : AreRows rs rows) (text : List ℕ) where
  plain : AllPlain rs
  plain t r has = all_has (λ row. is_plain row.0) (t, r) rows rows_plain (are.each (t, r) has)

  -- what the router finds is a row that the target fits
  pub found_row : AllBytes text → (r : RouteOf Requests) → first rs text ≡ Some r
      → (t : List ℕ) × Has (t, r) rows × (fits t text ≡ true)
  found_row bytes r e = let found =
      found_fits rs text plain bytes r e in (found.0, are.each (found.0, r) found.1, found.2)

  -- it has the requests of the target
  pub found_requests : AllBytes text → (r : RouteOf Requests) → first rs text ≡ Some r → requests_of text ≡ Some r.value
  found_requests bytes r e =
      let found = found_row bytes r e in
      let present =
      subst (λ rows. Has (found.0, r.value) rows) rows_table (has_map requests_in (found.0, r) rows found.1) in
      first_is text table found.0 r.value table_distinct present found.2

  pub missing_requests : first rs text ≡ None → requests_of text ≡ None
  missing_requests e = none_first text table (λ t requests has f.
      let row = map_has requests_in (t, requests) rows (subst (λ rows. Has (t, requests) rows) (sym rows_table) has) in
      missing_fits_none rs text plain e row.0.0 row.0.1 (are.all row.0 row.1) (ap (λ v. fits v.0 text) row.2 ∙ f))
