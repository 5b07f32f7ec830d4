-- What is copied by the names of a route is what a target has in place of its parameters.
use Rattle.std.proofs.Common.{◌≡◌, ℕ, ◌<◌, ◌==◌, ◌&&◌, List, [], ◌∷◌, length, Bool, true, false, inl, inr, refl, sym}
use Rattle.std.proofs.Common.{ap, subst, ◌∙◌, arith, ltb}
use Rattle.std.proofs.lemmas.Bool.{ltb-true}
use Rattle.std.proofs.lemmas.Bool.Decides.{nat_tests}
use Rattle.std.proofs.lemmas.Str.{IsUtf8-from_is_utf8}
use Rattle.std.specs.Prelude.{map, IsUtf8}
use Rattle.std.specs.List.{list_all, AllByRecursion}
use Rattle.std.specs.Str.{is_utf8, chars}
use Rattle.matchit.proofs.OnLiterals.{matchit_on_literals}
use Rattle.matchit.specs.Params.{walk, part_of, AllText}
use Rattle.matchit.specs.Router.{RouteOf}
use Rattle.wire_requests.specs.Parts.{part}
use Rattle.wire_requests.specs.Patterns.{fits, is_plain}
use Rattle.wire_requests.specs.Parameters.{AreNamed, AreParametersOf}
use Rattle.wire_requests.specs.Rows.{Has, rows}
use Rattle.wire_requests.specs.Table.{routes}
use Rattle.wire_requests.specs.declared.parameters.Parameters.{Parameters}
use Rattle.wire_requests.specs.declared.requests.Requests.{Requests}
use Rattle.wire_requests.proofs.Prefixes.{part_utf8}
use Rattle.wire_requests.proofs.Placed.{begins_parts, places, used_parts}
use Rattle.wire_requests.proofs.Texts.{and_first, and_last}
use Rattle.wire_requests.proofs.Walking.{pairs, parameters_of, walk_used}

-- the names of a route's parameters
abbrev names_of : RouteOf Requests → List (List ℕ)
names_of r = map (λ n. part_of r.text n.0 n.1) r.names

-- each name with a part of a target
abbrev zipped : List (List ℕ) → List ℕ → List ℕ → List (List ℕ × List ℕ)
zipped [] ns target = []
zipped (name ∷ names) [] target = []
zipped (name ∷ names) (n ∷ ns) target = (name, part n target) ∷ zipped names ns target

-- what a route's text gives: parameters are whole parts, each with a name that is a text
abbrev is_good : RouteOf Requests → Bool
is_good r =
    is_plain r.pattern && begins_parts false r.pattern && (length r.names == parameters_of r.pattern)
    && ltb (length r.pattern) 1000 && list_all (λ n. is_utf8 (part_of r.text n.0 n.1)) r.names

pairs_zipped : (pattern text path : List ℕ) (short : length pattern < 1000) (names : List (ℕ × ℕ)) (ns : List ℕ)
    → pairs pattern text path short names (map (λ n. part n path) ns)
    ≡ zipped (map (λ n. part_of text n.0 n.1) names) ns path
pairs_zipped pattern text path short [] ns = refl
pairs_zipped pattern text path short (name ∷ names) [] = refl
pairs_zipped pattern text path short (name ∷ names) (n ∷ ns) =
    ap (λ t. (part_of text name.0 name.1, part n path) ∷ t) (pairs_zipped pattern text path short names ns)

all_text : (text target : List ℕ) (names : List (ℕ × ℕ)) (ns : List ℕ) → IsUtf8 target
    → list_all (λ n. is_utf8 (part_of text n.0 n.1)) names ≡ true
    → AllText (zipped (map (λ n. part_of text n.0 n.1) names) ns target)
all_text text target [] ns u e = tt
all_text text target (name ∷ names) [] u e = tt
all_text text target (name ∷ names) (n ∷ ns) u e = (
  IsUtf8-from_is_utf8 (part_of text name.0 name.1)
      (and_first (is_utf8 (part_of text name.0 name.1)) (list_all (λ n. is_utf8 (part_of text n.0 n.1)) names) e),
  part_utf8 n target u,
  all_text text target names ns u
      (and_last (is_utf8 (part_of text name.0 name.1)) (list_all (λ n. is_utf8 (part_of text n.0 n.1)) names) e),
)

module _ (r : RouteOf Requests) (target : List ℕ) (good : is_good r ≡ true) (f : fits r.pattern target ≡ true) where
  pub walk_is : walk r.pattern r.text target r.names 0 0 ≡ zipped (names_of r) (places 0 r.pattern) target
  walk_is =
      let most = and_first _ (list_all (λ n. is_utf8 (part_of r.text n.0 n.1)) r.names) good in
      let short : length r.pattern < 1000 =
      ltb-true (length r.pattern) 1000 (and_last _ (ltb (length r.pattern) 1000) most) in
      let three = and_first _ (ltb (length r.pattern) 1000) most in
      let count = and_last _ (length r.names == parameters_of r.pattern) three in
      let two = and_first _ (length r.names == parameters_of r.pattern) three in
      let same : length r.names ≡ parameters_of r.pattern = grind (arith, nat_tests) in
      walk_used r.pattern r.text target short r.names same
      (and_first (is_plain r.pattern) (begins_parts false r.pattern) two) f
      ∙ ap (pairs r.pattern r.text target short r.names)
      (used_parts target r.pattern (and_last (is_plain r.pattern) (begins_parts false r.pattern) two) f)
      ∙ pairs_zipped r.pattern r.text target short r.names (places 0 r.pattern)

  pub walk_text : IsUtf8 target → AllText (walk r.pattern r.text target r.names 0 0)
  walk_text u =
      subst AllText (sym walk_is) (all_text r.text target r.names (places 0 r.pattern) u
      (and_last _ (list_all (λ n. is_utf8 (part_of r.text n.0 n.1)) r.names) good))

-- ---- row by row

-- the pattern of a row is that of its route, and what has the names of its parameters is what its requests want of a
-- target
abbrev IsNamedRow : List ℕ × RouteOf Requests → Type 0
IsNamedRow row =
    (row.0 ≡ row.1.pattern) × (is_good row.1 ≡ true)
    × ((target : List ℕ) (p : Parameters) → AreNamed (zipped (names_of row.1) (places 0 row.1.pattern) target) p
    → AreParametersOf row.1.value target p)

infixr 5 ◌then◌
◌then◌ : {A B : Type 0} → A → B → A × B
◌then◌ a b = (a, b)

named_rows : AllByRecursion IsNamedRow rows
unfolding routes rows matchit_on_literals is_utf8 chars lib.Utf8.encode
named_rows =
    (refl, refl, λ t p is. tt)
    then (refl, refl, λ t p is. tt)
    then (refl, refl, λ t p is. tt)
    then (refl, refl, λ t p is. is.0)
    then (refl, refl, λ t p is. is.0)
    then (refl, refl, λ t p is. is.0)
    then (refl, refl, λ t p is. is.0)
    then (refl, refl, λ t p is. tt)
    then (refl, refl, λ t p is. tt)
    then (refl, refl, λ t p is. tt)
    then (refl, refl, λ t p is. tt)
    then (refl, refl, λ t p is. tt)
    then (refl, refl, λ t p is. (is.2, is.2))
    then (refl, refl, λ t p is. ((is.1, is.2), (is.1, is.2)))
    then (refl, refl, λ t p is. (is.1, is.2))
    then (refl, refl, λ t p is. (is.1, is.2))
    then (refl, refl, λ t p is. ((is.1, is.2), is.3))
    then (refl, refl, λ t p is. ((is.1, is.2), is.3))
    then (refl, refl, λ t p is. ((is.1, is.4), (is.1, is.4)))
    then (refl, refl, λ t p is. tt)
    then (refl, refl, λ t p is. tt)
    then (refl, refl, λ t p is. tt)
    then tt

row_of_all : {A : Type 0} (P : A → Type 0) (x : A) (xs : List A) → AllByRecursion P xs → Has x xs → P x
row_of_all P x [] all has = absurd has
row_of_all P x (y ∷ xs) all (inl e) = subst P e all.0
row_of_all P x (y ∷ xs) all (inr h) = row_of_all P x xs all.1 h

module _ (r : RouteOf Requests) (target t : List ℕ) (has : Has (t, r) rows) (f : fits t target ≡ true) where
  row : IsNamedRow (t, r)
  row = row_of_all IsNamedRow (t, r) rows named_rows has

  fits_here : fits r.pattern target ≡ true
  fits_here = subst (λ v. fits v target ≡ true) row.0 f

  -- what is taken of a target is text
  pub row_text : IsUtf8 target → AllText (walk r.pattern r.text target r.names 0 0)
  row_text u = walk_text r target row.1 fits_here u

  -- what is copied of it by the names is what its requests want
  pub row_named : (p : Parameters) → AreNamed (walk r.pattern r.text target r.names 0 0) p
      → AreParametersOf r.value target p
  row_named p is = row.2 target p (subst (λ v. AreNamed v p) (walk_is r target row.1 fits_here) is)
