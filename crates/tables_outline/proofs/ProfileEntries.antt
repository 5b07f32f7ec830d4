-- Profiles in memory, and what they are seen as.
use Rattle.std.proofs.Common.{◌≡◌, ℕ, ◌+◌, List, [], map, Bool, true, false, Some, None, Option, is_some, refl, sym, ap}
use Rattle.std.proofs.Common.{◌∙◌, String}
use Rattle.std.specs.Prelude.{if◌then◌else◌, nat_lt, unwrap_or, option_map}
use Rattle.std.specs.List.{last_or, filter}
use Rattle.std.specs.Ordering.{eq_by_cmp, nat_cmp}
use Rattle.std.specs.Cmp.{nat_cmp_total}
use Rattle.std.specs.Map.{lookup, set_value, keys_of}
use Rattle.std.specs.List.Sorted.{IsStrictlySortedBy}
use Rattle.std.specs.declared.alloc.Global.{Global}
use Rattle.std.specs.FinMap as finite
use Rattle.std.proofs.lemmas.Bool.{false≢true}
use Rattle.std.proofs.lemmas.List.{map-id}
use Rattle.model.specs.World.{Path, Pair, Profile, pair_cmp}
use Rattle.model.specs.Profiles.{has_generation, highest, is_path, is_highest, number_for, set_to, switched}
use Rattle.model.specs.Profiles.{new_profile, profile_or_new, previous, put_at}
use Rattle.model.proofs.Empty.{no_entries}
use Rattle.tables_outline.specs.declared.profiles.Profile.{Profile as InMemory}
use Rattle.tables_outline.specs.Maps.{seen_map, pair_bytes}
use Rattle.tables_outline.specs.View.{profile_view}
use Rattle.tables_outline.proofs.Orders.{bytes_antisymmetric, nat_antisymmetric, pair_total, pair_antisymmetric}
use Rattle.tables_outline.proofs.Puts.{tied_is}
use Rattle.tables_outline.proofs.Trees.{get_seen, keys_seen}
use Rattle.tables_outline.proofs.Written.{insert_same, written}

is_present : (found : Option Path) (t : Path) → is_path found t ≡ true → found ≡ Some t
is_present None t h = absurd (false≢true h)
is_present (Some q) t h = ap Some (tied_is bytes_antisymmetric q t h)

-- to set a path is to put it at its number
pub set_is_put : (p : Profile) (t : Path) → put_at p (number_for p t) t ≡ set_to p t
set_is_put p t = by (is_highest p t) refl
  where
    by : (b : Bool) → is_highest p t ≡ b
        → put_at p (if b then highest p else highest p + 1) t
        ≡ (if b then switched p (highest p)
        else record { generations = finite.insert p.generations (highest p + 1) t; current = highest p + 1 })
    by true h =
        ap (λ g. record { generations = g; current = highest p })
        (insert_same nat_cmp_total nat_antisymmetric p.generations (highest p) t
        (is_present (finite.get p.generations (highest p)) t h))
    by false h = refl

-- the numbers of a profile in memory
pub numbers_seen : (es : List (ℕ × Path)) → IsStrictlySortedBy nat_cmp (keys_of es)
    → finite.keys (seen_map nat_cmp (λ n. n) (λ t. t) es) ≡ keys_of es
numbers_seen es h =
    keys_seen nat_cmp (λ n. n) (λ (t : Path). t) nat_cmp_total nat_antisymmetric es h ∙ map-id (keys_of es)

-- the target at a number of a profile in memory
pub generation_at : (es : List (ℕ × Path)) (n : ℕ)
    → finite.get (seen_map nat_cmp (λ n. n) (λ t. t) es) n
    ≡ option_map (λ t. t) (lookup (λ k. eq_by_cmp nat_cmp n k) es)
generation_at es n = get_seen nat_cmp (λ n. n) (λ (t : Path). t) nat_cmp_total nat_antisymmetric es n

-- ---- the profiles of an outline

abbrev ProfileList : Type 0
ProfileList = List ((String Global × String Global) × InMemory)

abbrev pub find_profile : ProfileList → Pair → Option InMemory
find_profile es q = lookup (λ k. eq_by_cmp pair_cmp q (pair_bytes k)) es

abbrev pub profiles_seen : ProfileList → finite.FinMap pair_cmp Profile
profiles_seen es = seen_map pair_cmp pair_bytes profile_view es

pub profile_found : (es : ProfileList) (q : Pair) (p : InMemory) → Some p ≡ find_profile es q
    → finite.get (profiles_seen es) q ≡ Some (profile_view p)
profile_found es q p found =
    get_seen pair_cmp pair_bytes profile_view pair_total pair_antisymmetric es q
    ∙ sym (ap (option_map profile_view) found)

pub profile_is : (es : ProfileList) (q : Pair) (p : InMemory) → Some p ≡ find_profile es q
    → profile_view p ≡ profile_or_new (finite.get (profiles_seen es) q)
profile_is es q p found = sym (ap profile_or_new (profile_found es q p found))

pub profile_missing : (es : ProfileList) (q : Pair) → None ≡ find_profile es q
    → is_some (finite.get (profiles_seen es) q) ≡ true → ⊥
profile_missing es q none present =
    false≢true (ap (λ o. is_some (option_map profile_view o)) none
    ∙ sym (ap is_some (get_seen pair_cmp pair_bytes profile_view pair_total pair_antisymmetric es q)) ∙ present)

-- and it has no generation
pub generation_missing : (es : ProfileList) (q : Pair) (n : ℕ) → None ≡ find_profile es q
    → has_generation (profile_or_new (finite.get (profiles_seen es) q)) n ≡ true → ⊥
generation_missing es q n none present =
    false≢true (sym (ap is_some (finite.get-empty nat_cmp n))
    ∙ ap (λ o. has_generation (profile_or_new (option_map profile_view o)) n) none
    ∙ sym (ap (λ o. has_generation (profile_or_new o) n)
    (get_seen pair_cmp pair_bytes profile_view pair_total pair_antisymmetric es q)) ∙ present)

-- a profile is written at a key that is there
pub profile_written : (es new : ProfileList) (q : Pair) (p x : InMemory) (v : Profile) → Some p ≡ find_profile es q
    → new ≡ set_value (λ k. eq_by_cmp pair_cmp q (pair_bytes k)) es x → profile_view x ≡ v
    → profiles_seen new ≡ finite.insert (profiles_seen es) q v
profile_written es new q p x v found is value =
    ap profiles_seen is ∙ written pair_cmp pair_bytes profile_view pair_total pair_antisymmetric es q x
    (sym (ap is_some found)) ∙ ap (finite.insert (profiles_seen es) q) value

-- ---- a profile that isn't there

no_numbers : finite.keys (finite.empty {X = Path} {R = nat_cmp}) ≡ []
no_numbers = ap (map (λ (e : ℕ × Path). e.0)) (no_entries Path nat_cmp)

none_highest : highest new_profile ≡ 0
none_highest = ap (λ ks. unwrap_or (last_or None ks) 0) no_numbers

pub none_before : previous new_profile ≡ None
none_before = ap (λ ks. last_or None (filter (λ n. nat_lt n 0) ks)) no_numbers

-- the first number of a new profile
pub first_number : (t : Path) → number_for new_profile t ≡ 1
first_number t =
    ap (λ b. if b then highest new_profile else highest new_profile + 1)
    (ap (λ o. is_path o t) (finite.get-empty nat_cmp (highest new_profile))) ∙ ap (λ n. n + 1) none_highest

pub new_if_missing : (o : Option Profile) → is_some o ≡ false → new_profile ≡ profile_or_new o
new_if_missing None h = refl
new_if_missing (Some p) h = absurd (false≢true (sym h))
