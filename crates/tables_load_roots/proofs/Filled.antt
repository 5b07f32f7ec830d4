-- Profiles that are put into the outline one after another, and then their generations.
use Rattle.std.proofs.Common.{◌≡◌, ℕ, ℤ, pos, negsuc, List, [], ◌∷◌, map, Bool, true, false, ◌&&◌, cond, Some, None}
use Rattle.std.proofs.Common.{Option, option_map, is_some, refl, sym, ap, ap₂, ◌∙◌, IsTrue, string_bytes}
use Rattle.std.specs.List.{filter, list_all, AllByRecursion}
use Rattle.std.specs.declared.cmp.Ordering.{Ordering}
use Rattle.std.specs.declared.cmp.Ordering.TheVariants.{Less, Equal, Greater}
use Rattle.std.specs.Ordering.{eq_by_cmp, is_eq, nat_cmp, int_cmp, ordering_then}
use Rattle.std.specs.Cmp.{IsTotalOrder, nat_cmp_total, int_cmp_total, tied_itself}
use Rattle.std.specs.FinMap as finite
use Rattle.std.proofs.lemmas.Bool.{false≢true}
use Rattle.tables_rows.specs.declared.generations.Generation.{Generation}
use Rattle.tables_rows.specs.Entries.{generation_in}
use Rattle.tables_sql.specs.Contents.{Contents, Triple, triple_cmp}
use Rattle.tables_sql.proofs.Orders.{triple_total, triple_antisymmetric}
use Rattle.paths.specs.Root.{bytes_cmp}
use Rattle.model.specs.World.{Path, Pair, pair_cmp, Profile}
use Rattle.tables_world.specs.Rows.{number_in, generations_in, profile_in}
use Rattle.tables_world.specs.Worlds.{rows_of, world_in}
use Rattle.tables_world.proofs.Columns.{generation_at, profile_at}
use Rattle.tables_outline.specs.Maps.{put_all}
use Rattle.tables_outline.specs.Outline.{OutlineValue}
use Rattle.tables_outline.specs.LoadedEntries.{with_number, with_found, with_generation}
use Rattle.tables_outline.proofs.Orders.{nat_antisymmetric, pair_total, pair_antisymmetric}
use Rattle.tables_outline.proofs.Puts.{tied_is, option_same}
use Rattle.tables_outline.proofs.Reported.{reported, reported_insert, get-reported}
use Rattle.tables_load_roots.specs.Loaded.{all_pass, all_put, LoadAs, Objects, is_target, is_number, is_generation}
use Rattle.tables_load_roots.specs.Loaded.{bare, bare_profiles}
use Rattle.tables_load_roots.proofs.PutAll.{all_put_again}
use Rattle.tables_load_roots.proofs.EachEntry.{all_true, each_key}
use Rattle.tables_load_roots.proofs.Rows.{pass_so}

-- ---- profiles

abbrev pub bare_of : Pair × ℤ → Pair × Profile
bare_of e = (e.0, bare e.1)

module _ {K X Y : Type 0} {R : K → K → Ordering} (o : IsTotalOrder R) (alike : finite.IsAntisymmetric R)
    (f : K → X → Y) where
  reported_each : (es : List (K × X)) (m : finite.FinMap R X)
      → put_all (map (λ e. (e.0, f e.0 e.1)) es) (reported o alike f m) ≡ reported o alike f (put_all es m)
  reported_each [] m = refl
  reported_each (e ∷ es) m =
      ap (put_all (map (λ d. (d.0, f d.0 d.1)) es)) (sym (reported_insert o alike f m e.0 e.1))
      ∙ reported_each es (finite.insert m e.0 e.1)

  reported_none : reported o alike f finite.empty ≡ finite.empty
  reported_none =
      finite.same_map o alike _ _ (λ q. get-reported o alike f finite.empty q
      ∙ ap (option_map (f q)) (finite.get-empty R q) ∙ sym (finite.get-empty R q))

  -- entries whose values are changed make the map with its values changed
  pub reported_again : (m : finite.FinMap R X)
      → put_all (map (λ e. (e.0, f e.0 e.1)) (finite.entries m)) finite.empty ≡ reported o alike f m
  reported_again m =
      ap (put_all (map (λ e. (e.0, f e.0 e.1)) (finite.entries m))) (sym reported_none)
      ∙ reported_each (finite.entries m) finite.empty
      ∙ ap (reported o alike f) (all_put_again o alike m)

pub bare_again : (m : finite.FinMap pair_cmp ℤ)
    → put_all (map bare_of (finite.entries m)) finite.empty ≡ bare_profiles m
bare_again = reported_again pair_total pair_antisymmetric (λ _ n. bare n)

-- ---- one generation

module _ (owned : Pair) (n : ℕ) (t : Path) (m : finite.FinMap pair_cmp Profile) (q : Pair) where
  get-found : (g : Option Profile) → finite.get m owned ≡ g
      → finite.get (with_found owned n t m g) q
      ≡ option_map (λ (p : Profile). cond (eq_by_cmp pair_cmp q owned) (with_number n t p) p) (finite.get m q)
  get-found None e = at (eq_by_cmp pair_cmp q owned) refl
    where
      at : (b : Bool) → eq_by_cmp pair_cmp q owned ≡ b
          → finite.get m q ≡ option_map (λ (p : Profile). cond b (with_number n t p) p) (finite.get m q)
      at false h = sym (option_same (finite.get m q))
      at true h = let none =
          ap (finite.get m) (tied_is pair_antisymmetric q owned h) ∙ e in
          none ∙ sym (ap (option_map (with_number n t)) none)
  get-found (Some was) e =
      finite.get-insert pair_total m owned (with_number n t was) q ∙ at (eq_by_cmp pair_cmp q owned) refl
    where
      at : (b : Bool) → eq_by_cmp pair_cmp q owned ≡ b
          → cond b (Some (with_number n t was)) (finite.get m q)
          ≡ option_map (λ (p : Profile). cond b (with_number n t p) p) (finite.get m q)
      at false h = sym (option_same (finite.get m q))
      at true h = sym (ap (option_map (with_number n t)) (ap (finite.get m) (tied_is pair_antisymmetric q owned h) ∙ e))

  get-with : finite.get (with_generation owned n t m) q
      ≡ option_map (λ (p : Profile). cond (eq_by_cmp pair_cmp q owned) (with_number n t p) p) (finite.get m q)
  get-with = get-found (finite.get m owned) refl

  some_still : (f : Profile → Profile) (g : Option Profile) → is_some (option_map f g) ≡ is_some g
  some_still f None = refl
  some_still f (Some p) = refl

  has-with : finite.contains_key (with_generation owned n t m) q ≡ finite.contains_key m q
  has-with =
      ap is_some get-with ∙ some_still (λ p. cond (eq_by_cmp pair_cmp q owned) (with_number n t p) p) (finite.get m q)

-- ---- all generations

abbrev pub put_generation : Generation → OutlineValue → OutlineValue
put_generation r o =
    record o {
      profiles = with_generation (string_bytes r.owner, string_bytes r.name) (number_in r.number)
          (string_bytes r.target) o.profiles;
    }

abbrev pub with_all : List (Triple × Path) → finite.FinMap pair_cmp Profile → finite.FinMap pair_cmp Profile
with_all [] m = m
with_all (e ∷ es) m = with_all es (with_generation (e.0.0, e.0.1) (number_in e.0.2) e.1 m)

pub generation_put : (xs : List Generation) (o : OutlineValue)
    → all_put put_generation xs o ≡ record o { profiles = with_all (map generation_in xs) o.profiles }
generation_put [] o = refl
generation_put (x ∷ xs) o = generation_put xs (put_generation x o)

pub generation_pass : (xs : List Generation) (o : OutlineValue)
    → all_pass (λ r (p : OutlineValue). is_generation p.objects p.profiles (generation_in r)) put_generation xs o
    ≡ list_all (is_generation o.objects o.profiles) (map generation_in xs)
generation_pass = pass_so generation_in (λ (o : OutlineValue) e. is_generation o.objects o.profiles e) put_generation
    (λ x o e. ap (λ b. is_number e.0.2 && (is_target o.objects e.1 && b))
    (has-with (string_bytes x.owner, string_bytes x.name) (number_in x.number) (string_bytes x.target) o.profiles
    (e.0.0, e.0.1)))

-- whether a generation is of a profile
abbrev is_of : Pair → Triple × Path → Bool
is_of q e = eq_by_cmp bytes_cmp q.0 e.0.0 && eq_by_cmp bytes_cmp q.1 e.0.1

-- the number and the target of a generation
abbrev part : Triple × Path → ℕ × Path
part e = (number_in e.0.2, e.1)

abbrev parts_of : Pair → List (Triple × Path) → List (ℕ × Path)
parts_of q es = map part (filter (is_of q) es)

tied_both : (r s : Ordering) → is_eq (ordering_then r s) ≡ (is_eq r && is_eq s)
tied_both Less s = refl
tied_both Equal s = refl
tied_both Greater s = refl

tied_three : (r s t : Ordering) → is_eq (ordering_then r (ordering_then s t)) ≡ ((is_eq r && is_eq s) && is_eq t)
tied_three Less s t = refl
tied_three Equal s t = tied_both s t
tied_three Greater s t = refl

same_tests : (a b : Bool) → (IsTrue a → IsTrue b) → (IsTrue b → IsTrue a) → a ≡ b
same_tests true b f g = sym (f refl)
same_tests false true f g = g refl
same_tests false false f g = refl

-- numbers that aren't negative tie as their values do
numbers_tie : (n m : ℕ) → eq_by_cmp int_cmp (pos n) (pos m) ≡ eq_by_cmp nat_cmp n m
numbers_tie n m = same_tests (eq_by_cmp int_cmp (pos n) (pos m)) (eq_by_cmp nat_cmp n m)
    (λ h. ap (λ (z : ℤ). eq_by_cmp nat_cmp n (number_in z))
    (sym (tied_is finite.int_cmp-IsAntisymmetric (pos n) (pos m) h)) ∙ ap is_eq (tied_itself nat_cmp_total n))
    (λ h. ap (λ (k : ℕ). eq_by_cmp int_cmp (pos n) (pos k)) (sym (tied_is finite.nat_cmp-IsAntisymmetric n m h))
    ∙ ap is_eq (tied_itself int_cmp_total (pos n)))

-- what all generations make of one profile
get-all : (es : List (Triple × Path)) (m : finite.FinMap pair_cmp Profile) (q : Pair)
    → finite.get (with_all es m) q
    ≡ option_map (λ (p : Profile). record p { generations = put_all (parts_of q es) p.generations })
    (finite.get m q)
get-all [] m q = sym (option_same (finite.get m q))
get-all (e ∷ es) m q =
    get-all es (with_generation (e.0.0, e.0.1) (number_in e.0.2) e.1 m) q
    ∙ ap (option_map (λ (p : Profile). record p { generations = put_all (parts_of q es) p.generations }))
    (get-with (e.0.0, e.0.1) (number_in e.0.2) e.1 m q)
    ∙ ap (λ b. option_map (λ (p : Profile). record p { generations = put_all (parts_of q es) p.generations })
    (option_map (λ (p : Profile). cond b (with_number (number_in e.0.2) e.1 p) p) (finite.get m q)))
    (tied_both (bytes_cmp q.0 e.0.0) (bytes_cmp q.1 e.0.1))
    ∙ by (is_of q e) (finite.get m q)
  where
    by : (b : Bool) (g : Option Profile)
        → option_map (λ (p : Profile). record p { generations = put_all (parts_of q es) p.generations })
        (option_map (λ (p : Profile). cond b (with_number (number_in e.0.2) e.1 p) p) g)
        ≡ option_map (λ (p : Profile).
        record p {
          generations = put_all (map part (cond b (e ∷ filter (is_of q) es) (filter (is_of q) es)))
              p.generations;
        }) g
    by true None = refl
    by false None = refl
    by true (Some p) = refl
    by false (Some p) = refl

-- no number is negative
abbrev AreNumbers : List (Triple × Path) → Type 0
AreNumbers es = AllByRecursion (λ (e : Triple × Path). (k : ℕ) × (e.0.2 ≡ pos k)) es

-- the generations of one profile, next to the rows of all
get-parts : (q : Pair) (es : List (Triple × Path)) → AreNumbers es
    → (g : finite.FinMap nat_cmp Path) (m : finite.FinMap triple_cmp Path)
    → ((n : ℕ) → finite.get g n ≡ finite.get m (q.0, q.1, pos n))
    → (n : ℕ) → finite.get (put_all (parts_of q es) g) n ≡ finite.get (put_all es m) (q.0, q.1, pos n)
get-parts q [] h g m same n = same n
get-parts q (e ∷ es) h g m same n = by (is_of q e) refl (get-parts q es h.1)
  where
    tied : (k : ℕ) → eq_by_cmp triple_cmp (q.0, q.1, pos k) e.0 ≡ (is_of q e && eq_by_cmp nat_cmp k (number_in e.0.2))
    tied k =
        tied_three (bytes_cmp q.0 e.0.0) (bytes_cmp q.1 e.0.1) (int_cmp (pos k) e.0.2)
        ∙ ap (λ (z : ℤ). is_of q e && is_eq (int_cmp (pos k) z)) h.0.1 ∙ ap (λ b. is_of q e && b) (numbers_tie k h.0.0)
        ∙ sym (ap (λ (z : ℤ). is_of q e && eq_by_cmp nat_cmp k (number_in z)) h.0.1)

    by : (b : Bool) → is_of q e ≡ b
        → ((x : finite.FinMap nat_cmp Path) (y : finite.FinMap triple_cmp Path)
        → ((k : ℕ) → finite.get x k ≡ finite.get y (q.0, q.1, pos k)) → (k : ℕ)
        → finite.get (put_all (parts_of q es) x) k ≡ finite.get (put_all es y) (q.0, q.1, pos k))
        → finite.get (put_all (map part (cond b (e ∷ filter (is_of q) es) (filter (is_of q) es))) g) n
        ≡ finite.get (put_all es (finite.insert m e.0 e.1)) (q.0, q.1, pos n)
    by true t later = later (finite.insert g (number_in e.0.2) e.1) (finite.insert m e.0 e.1) (λ k.
        finite.get-insert nat_cmp_total g (number_in e.0.2) e.1 k
        ∙ ap₂ (λ b x. cond b (Some e.1) x) (sym (tied k ∙ ap (λ b. b && eq_by_cmp nat_cmp k (number_in e.0.2)) t))
        (same k)
        ∙ sym (finite.get-insert triple_total m e.0 e.1 (q.0, q.1, pos k))) n
    by false t later = later g (finite.insert m e.0 e.1) (λ k.
        same k
        ∙ sym (finite.get-insert triple_total m e.0 e.1 (q.0, q.1, pos k)
        ∙ ap (λ b. cond b (Some e.1) (finite.get m (q.0, q.1, pos k)))
        (tied k ∙ ap (λ b. b && eq_by_cmp nat_cmp k (number_in e.0.2)) t))) n

-- ---- what the rows show

pub is_positive : (z : ℤ) → is_number z ≡ true → (k : ℕ) × (z ≡ pos k)
is_positive (pos k) h = (k, refl)
is_positive (negsuc k) h = absurd (false≢true h)

first_true : (a b : Bool) → (a && b) ≡ true → a ≡ true
first_true true b h = refl
first_true false b h = h

module _ (objects : Objects) (c : Contents)
    (sound : list_all (is_generation objects c.profiles) (finite.entries c.generations) ≡ true) where
  are_numbers : (es : List (Triple × Path)) → AllByRecursion (λ e. IsTrue (is_generation objects c.profiles e)) es
      → AreNumbers es
  are_numbers [] h = tt
  are_numbers (e ∷ es) h = (is_positive e.0.2 (first_true (is_number e.0.2) _ h.0), are_numbers es h.1)

  all_numbers : AreNumbers (finite.entries c.generations)
  all_numbers =
      are_numbers (finite.entries c.generations)
      (all_true triple_total triple_antisymmetric (is_generation objects c.profiles) (finite.entries c.generations)
      sound)

  some_key : {X : Type 0} (g : Option X) → IsTrue (is_some g) → (x : X) × (g ≡ Some x)
  some_key None h = absurd (false≢true h)
  some_key (Some x) h = (x, refl)

  pub no_negative : (owner name : List ℕ) (n : ℤ) → IsTrue (finite.contains_key c.generations (owner, name, n))
      → (k : ℕ) × (n ≡ pos k)
  no_negative owner name n present =
      let t = some_key (finite.get c.generations (owner, name, n)) present in
      each_key triple_total triple_antisymmetric (λ (e : Triple × Path). (k : ℕ) × (e.0.2 ≡ pos k)) c.generations
      all_numbers (owner, name, n) t.0 t.1

  filled : (q : Pair) → put_all (parts_of q (finite.entries c.generations)) finite.empty ≡ generations_in (rows_of c) q
  filled q = finite.same_map nat_cmp_total nat_antisymmetric _ _ (λ n.
      get-parts q (finite.entries c.generations) all_numbers finite.empty finite.empty
      (λ k. finite.get-empty nat_cmp k ∙ sym (finite.get-empty triple_cmp (q.0, q.1, pos k))) n
      ∙ ap (λ (m : finite.FinMap triple_cmp Path). finite.get m (q.0, q.1, pos n))
      (all_put_again triple_total triple_antisymmetric c.generations)
      ∙ sym (generation_at (rows_of c) no_negative q.0 q.1 n))

  -- all profiles with all their generations are those that the rows show
  pub profiles_filled : with_all (finite.entries c.generations) (bare_profiles c.profiles) ≡ (world_in c).profiles
  profiles_filled = finite.same_map pair_total pair_antisymmetric _ _ (λ q.
      get-all (finite.entries c.generations) (bare_profiles c.profiles) q
      ∙ ap (option_map (λ (p : Profile).
      record p { generations = put_all (parts_of q (finite.entries c.generations)) p.generations }))
      (get-reported pair_total pair_antisymmetric (λ _ n. bare n) c.profiles q)
      ∙ by q (finite.get c.profiles q)
      ∙ sym (profile_at (rows_of c) q))
    where
      by : (q : Pair) (g : Option ℤ)
          → option_map (λ (p : Profile).
          record p { generations = put_all (parts_of q (finite.entries c.generations)) p.generations })
          (option_map bare g) ≡ option_map (profile_in (rows_of c) q) g
      by q None = refl
      by q (Some n) =
          ap (λ (m : finite.FinMap nat_cmp Path). let p : Profile = record { generations = m; current = number_in n } in
          Some p) (filled q)

-- ---- what the generations are tested with

-- a profile that has no generations yet is there already
bare_has : (m : finite.FinMap pair_cmp ℤ) (q : Pair) → finite.contains_key (bare_profiles m) q ≡ finite.contains_key m q
bare_has m q = ap is_some (get-reported pair_total pair_antisymmetric (λ _ n. bare n) m q) ∙ some (finite.get m q)
  where
    some : (g : Option ℤ) → is_some (option_map bare g) ≡ is_some g
    some None = refl
    some (Some n) = refl

next_to_bare : (objects : Objects) (m : finite.FinMap pair_cmp ℤ) (es : List (Triple × Path))
    → list_all (is_generation objects (bare_profiles m)) es ≡ list_all (is_generation objects m) es
next_to_bare objects m [] = refl
next_to_bare objects m (e ∷ es) =
    ap₂ (λ a b. (is_number e.0.2 && (is_target objects e.1 && a)) && b) (bare_has m (e.0.0, e.0.1))
    (next_to_bare objects m es)

module _ (xs : List Generation) (o : OutlineValue) (c : Contents)
    (reads : map generation_in xs ≡ finite.entries c.generations)
    (profiles : o.profiles ≡ bare_profiles c.profiles) where
  generations_reported : all_pass (λ r (p : OutlineValue). is_generation p.objects p.profiles (generation_in r))
      put_generation xs o ≡ list_all (is_generation o.objects c.profiles) (finite.entries c.generations)
  generations_reported =
      generation_pass xs o ∙ ap₂ (λ (m : finite.FinMap pair_cmp Profile) es. list_all (is_generation o.objects m) es)
      profiles reads
      ∙ next_to_bare o.objects c.profiles (finite.entries c.generations)

  pub load_generations : LoadAs (λ r (p : OutlineValue). is_generation p.objects p.profiles (generation_in r))
      put_generation xs o (list_all (is_generation o.objects c.profiles) (finite.entries c.generations))
      (record o { profiles = (world_in c).profiles })
  load_generations = record {
    reported = generations_reported;
    loaded =
        λ sound. generation_put xs o ∙ ap (λ m. record o { profiles = m })
        (ap₂ with_all reads profiles ∙ profiles_filled o.objects c sound);
  }
