-- Base names in order, as rows have them and as a set lists them.
use Rattle.std.proofs.Common.{◌≡◌, List, [], ◌∷◌, map, Bool, true, false, ◌&&◌, ◌||◌, Some, None, Option, Vec, Global}
use Rattle.std.proofs.Common.{refl, sym, ap, subst, ◌∙◌, IsTrue, T}
use Rattle.std.specs.Prelude.{MatchOption}
use Rattle.std.specs.declared.cmp.Ordering.{Ordering}
use Rattle.std.specs.declared.cmp.Ordering.TheVariants.{Less, Equal, Greater}
use Rattle.std.specs.List.{list_any}
use Rattle.std.specs.Ordering.{eq_by_cmp, is_lt}
use Rattle.std.specs.Cmp.{eq_by_cmp_equiv}
use Rattle.std.specs.FinMap as finite
use Rattle.std.specs.FinMap.Entries.{is_sorted, below_all}
use Rattle.std.proofs.lemmas.Bool.{false≢true}
use Rattle.paths.specs.StorePath.{is_base_name}
use Rattle.paths.specs.Root.{bytes_cmp, Set}
use Rattle.model.specs.World.{Path}
use Rattle.tables_outline.specs.Outline.{rise}
use Rattle.tables_outline.proofs.Orders.{bytes_total, bytes_antisymmetric}
use Rattle.tables_outline.proofs.Ordered.{both_T, from_both, from_true}
use Rattle.tables_outline.proofs.Puts.{tied_is}
use Rattle.tables_load_objects.specs.Tested.{is_above, are_paths}
use Rattle.tables_load_objects.proofs.Truths.{both_so, and_so, to_true}

abbrev unit : Path → Path × Unit {0}
unit p = (p, tt)

is_less : (r : Ordering) → is_lt r ≡ true → r ≡ Less
is_less Less h = refl
is_less Equal h = absurd (false≢true h)
is_less Greater h = absurd (false≢true h)

-- ---- what was tested text by text rises

abbrev Above : Path → List Path → Type 0
Above p ps = T (below_all bytes_cmp p (map unit ps))

above_all : (p q : Path) (ps : List Path) → bytes_cmp p q ≡ Less → Above q ps → Above p ps
above_all p q [] less h = tt
above_all p q (r ∷ ps) less h =
    let parts = both_T (is_lt (bytes_cmp q r)) (below_all bytes_cmp q (map unit ps)) h in
    from_both (is_lt (bytes_cmp p r)) (below_all bytes_cmp p (map unit ps))
    (from_true _ (ap is_lt (bytes_total.trans p q r less (is_less _ (to_true _ parts.0)))))
    (above_all p q ps less parts.1)

pub tested_rise : (last : Path) (ps : List Path) → are_paths (Some last) ps ≡ true
    → Above last ps × T (is_sorted bytes_cmp (map unit ps))
tested_rise last [] h = (tt, tt)
tested_rise last (p ∷ ps) h =
    let first = both_so (is_lt (bytes_cmp last p)) (is_base_name p && are_paths (Some p) ps) h in
    let second = both_so (is_base_name p) (are_paths (Some p) ps) first.1 in
    let later = tested_rise p ps second.1 in (
      from_both (is_lt (bytes_cmp last p)) (below_all bytes_cmp last (map unit ps)) (from_true _ first.0)
          (above_all last p ps (is_less _ first.0) later.0),
      from_both (below_all bytes_cmp p (map unit ps)) (is_sorted bytes_cmp (map unit ps)) later.0 later.1,
    )

pub paths_rise : (ps : List Path) → are_paths None ps ≡ true → IsTrue (rise ps)
paths_rise [] h = refl
paths_rise (p ∷ ps) h =
    let second = both_so (is_base_name p) (are_paths (Some p) ps) h in
    let later = tested_rise p ps second.1 in
    to_true _ (from_both (below_all bytes_cmp p (map unit ps)) (is_sorted bytes_cmp (map unit ps)) later.0 later.1)

-- ---- each is a base name

pub each_base : (last : Option Path) (ps : List Path) → are_paths last ps ≡ true → (q : Path)
    → list_any (eq_by_cmp bytes_cmp q) ps ≡ true → is_base_name q ≡ true
each_base last [] h q present = absurd (false≢true present)
each_base last (p ∷ ps) h q present =
    let first = both_so (is_above last p) (is_base_name p && are_paths (Some p) ps) h in
    let second = both_so (is_base_name p) (are_paths (Some p) ps) first.1 in
    by (eq_by_cmp bytes_cmp q p) refl second.0 present (each_base (Some p) ps second.1 q)
  where
    by : (b : Bool) → eq_by_cmp bytes_cmp q p ≡ b → is_base_name p ≡ true
        → (b || list_any (eq_by_cmp bytes_cmp q) ps) ≡ true
        → (list_any (eq_by_cmp bytes_cmp q) ps ≡ true → is_base_name q ≡ true) → is_base_name q ≡ true
    by true t base h later = ap is_base_name (tied_is bytes_antisymmetric q p t) ∙ base
    by false t base h later = later h

-- ---- and the other way

first_in : (p : Path) (ps : List Path) → list_any (eq_by_cmp bytes_cmp p) (p ∷ ps) ≡ true
first_in p ps = ap (λ b. b || list_any (eq_by_cmp bytes_cmp p) ps) ((eq_by_cmp_equiv bytes_total).refl p)

or_true : (b : Bool) → (b || true) ≡ true
or_true true = refl
or_true false = refl

later_in : (q p : Path) (ps : List Path) → list_any (eq_by_cmp bytes_cmp q) ps ≡ true
    → list_any (eq_by_cmp bytes_cmp q) (p ∷ ps) ≡ true
later_in q p ps h = ap (λ b. eq_by_cmp bytes_cmp q p || b) h ∙ or_true (eq_by_cmp bytes_cmp q p)

pub rising_paths : (last : Option Path) (ps : List Path)
    → ((p : Path) → list_any (eq_by_cmp bytes_cmp p) ps ≡ true → is_base_name p ≡ true)
    → T (is_sorted bytes_cmp (map unit ps))
    → ((p : Path) (rest : List Path) → ps ≡ p ∷ rest → is_above last p ≡ true) → are_paths last ps ≡ true
rising_paths last [] base up above = refl
rising_paths last (p ∷ ps) base up above =
    let parts = both_T (below_all bytes_cmp p (map unit ps)) (is_sorted bytes_cmp (map unit ps)) up in
    and_so (is_above last p) (is_base_name p && are_paths (Some p) ps) (above p ps refl)
    (and_so (is_base_name p) (are_paths (Some p) ps) (base p (first_in p ps))
    (rising_paths (Some p) ps (λ q present. base q (later_in q p ps present)) parts.1 (next ps parts.0)))
  where
    next : (qs : List Path) → Above p qs → (q : Path) (rest : List Path) → qs ≡ q ∷ rest → is_above (Some p) q ≡ true
    next qs h q rest e =
        to_true _ (both_T (is_lt (bytes_cmp p q)) (below_all bytes_cmp p (map unit rest))
        (subst (λ (l : List Path). T (below_all bytes_cmp p (map unit l))) e h)).0

units : (es : List (Path × Unit {0})) → map unit (map (λ (e : Path × Unit {0}). e.0) es) ≡ es
units [] = refl
units (e ∷ es) = ap (λ (l : List (Path × Unit {0})). e ∷ l) (units es)

-- what a set of base names lists passes the test
pub keys_are_paths : (s : Set bytes_cmp) → ((p : Path) → finite.contains_key s p ≡ true → is_base_name p ≡ true)
    → are_paths None (finite.keys s) ≡ true
keys_are_paths s base = rising_paths None (finite.keys s) (λ p present. base p (finite.contains_key-keys s p ∙ present))
    (subst (λ (l : List (Path × Unit {0})). T (is_sorted bytes_cmp l)) (sym (units (finite.entries s)))
    (finite.entries_sorted s)) (λ p rest e. refl)

-- the set of what a set lists
pub set_again : (s : Set bytes_cmp) → finite.from_entries {R = bytes_cmp} (map unit (finite.keys s)) ≡ s
set_again s =
    ap (finite.from_entries {R = bytes_cmp}) (units (finite.entries s))
    ∙ finite.same_map bytes_total bytes_antisymmetric _ _
    (λ q. finite.get-from_entries bytes_total (finite.entries s) q ∙ sym (finite.get-entries s q))

-- what was read of rows rises
pub read_rise : (texts : List Path) (o : Option (Vec Path Global)) (v : Vec Path Global) → o ≡ Some v
    → MatchOption o (are_paths None texts ≡ false) (λ w. (w.items ≡ texts) × (are_paths None texts ≡ true))
    → IsTrue (rise v.items)
read_rise texts o v e h =
    let it =
    subst (λ (x : Option (Vec Path Global)). MatchOption x (are_paths None texts ≡ false)
    (λ w. (w.items ≡ texts) × (are_paths None texts ≡ true))) e h in
    subst (λ (l : List Path). IsTrue (rise l)) (sym it.0) (paths_rise texts it.1)
