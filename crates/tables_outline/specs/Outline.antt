-- A world without the bytes of its archives: what is kept in memory.
use Rattle.std.specs.Prelude.{ℕ, List, map, length, Bool, Option, Some, None, option_map, refl}
use Rattle.std.specs.Coded.{Coded, code_by, coded×, coded_ℕ, coded_list, coded_option}
use base.Stored.{coded_unit}
use Rattle.std.specs.Ordering.{nat_cmp}
use Rattle.std.specs.FinMap as finite
use Rattle.std.specs.FinMap.Entries.{is_sorted}
use Rattle.sha2.specs.Sha256.{sha256}
use Rattle.paths.specs.Root.{bytes_cmp, Set}
use Rattle.paths.specs.ContentAddress.{ContentAddress}
use Rattle.paths.specs.contracts.content_address.Ca as address
use Rattle.model.specs.World.{Path, Pair, pair_cmp, Object, Profile, Temporary, temporary_cmp, World}
use Rattle.model.specs.Profiles.{profile_or_new, switched, without_generation}

-- an object, with the size and the digest of its archive
pub record Outlined : Type 0 where
  pub size : ℕ
  pub hash : List ℕ
  pub references : Set bytes_cmp
  pub deriver : Option Path
  pub ca : Option ContentAddress
  pub outputs : finite.FinMap bytes_cmp Path

abbrev pub outlined : Object → Outlined
outlined o =
    record {
      size = length o.nar;
      hash = sha256 o.nar;
      references = o.references;
      deriver = o.deriver;
      ca = o.ca;
      outputs = o.outputs;
    }

-- an object of which this is the outline, if the size and the digest are the archive's
abbrev pub with_archive : List ℕ → Outlined → Object
with_archive nar o =
    record { nar = nar; references = o.references; deriver = o.deriver; ca = o.ca; outputs = o.outputs }

pub record OutlineValue : Type 0 where
  pub objects : finite.FinMap bytes_cmp Outlined
  pub permanent : finite.FinMap bytes_cmp Path
  pub user_roots : finite.FinMap pair_cmp Path
  pub profiles : finite.FinMap pair_cmp Profile
  pub runtime : Set pair_cmp
  pub temporary : Set temporary_cmp

abbrev pub outline_of : World → OutlineValue
outline_of w = record {
  objects = finite.from_entries (map (λ e. (e.0, outlined e.1)) (finite.entries w.objects));
  permanent = w.permanent;
  user_roots = w.user_roots;
  profiles = w.profiles;
  runtime = w.runtime;
  temporary = w.temporary;
}

-- ---- profiles

-- the profile of an owner and a name, or one without generations
abbrev pub profile_of : OutlineValue → Pair → Profile
profile_of o owned = profile_or_new (finite.get o.profiles owned)

abbrev pub with_profile : OutlineValue → Pair → Profile → OutlineValue
with_profile o owned p = record o { profiles = finite.insert o.profiles owned p }

-- the number of the current generation, if there is such a profile
abbrev pub current_of : OutlineValue → Pair → Option ℕ
current_of o owned = option_map (λ p. p.current) (finite.get o.profiles owned)

-- the profiles without one generation of one of them, in which the number that was current is so again; or without all
-- of it
abbrev pub without_added : OutlineValue → Pair → ℕ → Option ℕ → finite.FinMap pair_cmp Profile
without_added o owned n None = finite.remove o.profiles owned
without_added o owned n (Some current) =
    finite.insert o.profiles owned (switched (without_generation (profile_of o owned) n) current)

-- ---- codes of the parts of an outline

abbrev pub bytes_code : Coded (List ℕ)
bytes_code = coded_list coded_ℕ

abbrev pub pair_code : Coded Pair
pair_code = coded× bytes_code bytes_code

abbrev pub outlined_code : Coded Outlined
outlined_code =
    code_by (ℕ × (List ℕ × (Set bytes_cmp × (Option Path × (Option ContentAddress × finite.FinMap bytes_cmp Path)))))
    (coded× coded_ℕ
    (coded× bytes_code
    (coded× (finite.code bytes_code coded_unit)
    (coded× (coded_option bytes_code)
    (coded× (coded_option address.the_row.coded) (finite.code bytes_code bytes_code))))))
    (λ o. (o.size, (o.hash, (o.references, (o.deriver, (o.ca, o.outputs))))))
    (λ p. record {
      size = p.0;
      hash = p.1.0;
      references = p.1.1.0;
      deriver = p.1.1.1.0;
      ca = p.1.1.1.1.0;
      outputs = p.1.1.1.1.1;
    })
    (λ _. refl)

abbrev pub profile_code : Coded Profile
profile_code =
    code_by (finite.FinMap nat_cmp Path × ℕ) (coded× (finite.code coded_ℕ bytes_code) coded_ℕ)
    (λ p. (p.generations, p.current)) (λ p. record { generations = p.0; current = p.1 }) (λ _. refl)

abbrev pub temporary_code : Coded Temporary
temporary_code =
    code_by (List ℕ × (ℕ × Path)) (coded× bytes_code (coded× coded_ℕ bytes_code)) (λ t. (t.owner, (t.session, t.path)))
    (λ p. record { owner = p.0; session = p.1.0; path = p.1.1 }) (λ _. refl)

abbrev pub outline_code : Coded OutlineValue
outline_code =
    code_by (finite.FinMap bytes_cmp Outlined
    × (finite.FinMap bytes_cmp Path
    × (finite.FinMap pair_cmp Path × (finite.FinMap pair_cmp Profile × (Set pair_cmp × Set temporary_cmp)))))
    (coded× (finite.code bytes_code outlined_code)
    (coded× (finite.code bytes_code bytes_code)
    (coded× (finite.code pair_code bytes_code)
    (coded× (finite.code pair_code profile_code)
    (coded× (finite.code pair_code coded_unit) (finite.code temporary_code coded_unit))))))
    (λ o. (o.objects, (o.permanent, (o.user_roots, (o.profiles, (o.runtime, o.temporary))))))
    (λ p. record {
      objects = p.0;
      permanent = p.1.0;
      user_roots = p.1.1.0;
      profiles = p.1.1.1.0;
      runtime = p.1.1.1.1.0;
      temporary = p.1.1.1.1.1;
    })
    (λ _. refl)

-- ---- lists in order

-- each path or name is below the next
abbrev pub rise : List Path → Bool
rise items = is_sorted bytes_cmp (map (λ (p : Path). let e : Path × Unit {0} = (p, tt) in e) items)
