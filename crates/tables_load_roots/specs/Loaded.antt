-- What is tested of rows, and what they make of an outline.
use Rattle.std.specs.Prelude.{◌≡◌, ◌&&◌, Bool, IsTrue, true, false, List, [], ◌∷◌, map, ℕ, nat_le, ℤ, pos, negsuc}
use Rattle.std.specs.List.{list_all}
use Rattle.std.specs.FinMap as finite
use Rattle.tables_sql.specs.Contents.{Contents, Triple, SessionPath}
use Rattle.paths.specs.Names.{is_plain_name}
use Rattle.paths.specs.StorePath.{is_base_name}
use Rattle.paths.specs.Root.{bytes_cmp, is_runtime_label}
use Rattle.model.specs.World.{Path, Pair, pair_cmp, Profile}
use Rattle.paths.specs.Decimal.{max_generation, max_session}
use Rattle.tables_world.specs.Rows.{Rows, number_in}
use Rattle.tables_world.specs.Parts.{IsSoundSession, AreSoundRoots}
use Rattle.tables_world.specs.Worlds.{world_in}
use Rattle.tables_outline.specs.Outline.{Outlined, OutlineValue}
use Rattle.tables_outline.specs.LoadedEntries.{has_currents}

-- each row passes with the outline with all rows before it
abbrev pub all_pass : {X : Type 0} → (X → OutlineValue → Bool) → (X → OutlineValue → OutlineValue) → List X
    → OutlineValue → Bool
all_pass passes put [] o = true
all_pass passes put (x ∷ xs) o = passes x o && all_pass passes put xs (put x o)

-- an outline, and all rows
abbrev pub all_put : {X : Type 0} → (X → OutlineValue → OutlineValue) → List X → OutlineValue → OutlineValue
all_put put [] o = o
all_put put (x ∷ xs) o = all_put put xs (put x o)

-- tested and put one after another, beginning with this outline, all rows pass if and only if the answer is true, and
-- then make the other outline
pub record LoadAs {X : Type 0} (passes : X → OutlineValue → Bool) (put : X → OutlineValue → OutlineValue)
    (rows : List X) (from : OutlineValue) (answer : Bool) (to : OutlineValue) : Type 0 where
  pub reported : all_pass passes put rows from ≡ answer
  pub loaded : IsTrue answer → all_put put rows from ≡ to

abbrev pub Objects : Type 0
Objects = finite.FinMap bytes_cmp Outlined

-- a base name, and an object's
abbrev pub is_target : Objects → Path → Bool
is_target objects p = is_base_name p && finite.contains_key objects p

-- a permanent root has a plain name, and its target is an object
abbrev pub is_permanent_root : Objects → List ℕ × Path → Bool
is_permanent_root objects e = is_plain_name e.0 && is_target objects e.1

-- a user root has a plain name and a plain owner, and its target is an object
abbrev pub is_user_root : Objects → Pair × Path → Bool
is_user_root objects e = is_plain_name e.0.0 && (is_plain_name e.0.1 && is_target objects e.1)

-- a runtime root has a runtime label
abbrev pub is_runtime_root : Objects → Pair × Unit {0} → Bool
is_runtime_root objects e = is_runtime_label e.0.0 && is_target objects e.0.1

-- ---- numbers

-- a number of 1 up to the greatest
abbrev pub is_up_to : ℕ → ℤ → Bool
is_up_to most (pos n) = nat_le 1 n && nat_le n most
is_up_to most (negsuc n) = false

-- a number of a session: 1 to 4,194,304
abbrev pub is_session_number : ℤ → Bool
is_session_number = is_up_to max_session

-- a number of a generation: 1 to 9,999
abbrev pub is_number : ℤ → Bool
is_number = is_up_to max_generation

-- ---- sessions

-- what a session keeps: its owner has a plain name, its number is one of a session, and the path is an object's
abbrev pub is_temporary_root : Objects → SessionPath × Unit {0} → Bool
is_temporary_root objects e = is_plain_name e.0.0 && (is_session_number e.0.1 && is_target objects e.0.2)

-- ---- profiles

-- a profile has an owner and a name, both plain, and its current number is one of a generation
abbrev pub is_profile : Pair × ℤ → Bool
is_profile e = is_plain_name e.0.0 && (is_plain_name e.0.1 && is_number e.1)

-- a generation has such a number, its owner and name are a profile's, and its target is an object
abbrev pub is_generation : {X : Type 0} → Objects → finite.FinMap pair_cmp X → Triple × Path → Bool
is_generation objects profiles e =
    is_number e.0.2 && (is_target objects e.1 && finite.contains_key profiles (e.0.0, e.0.1))

-- a profile that has no generations yet
abbrev pub bare : ℤ → Profile
bare current = record { generations = finite.empty; current = number_in current }

-- all profiles, as their own rows have them
abbrev pub bare_profiles : finite.FinMap pair_cmp ℤ → finite.FinMap pair_cmp Profile
bare_profiles m = finite.from_entries (map (λ e. (e.0, bare e.1)) (finite.entries m))

-- each profile is sound, and each generation; and each profile has a generation of its current number
abbrev pub are_profiles : Objects → Contents → Bool
are_profiles objects c =
    list_all is_profile (finite.entries c.profiles)
    && (list_all (is_generation objects c.profiles) (finite.entries c.generations)
    && has_currents (world_in c).profiles)

-- ---- all roots

-- the permanent roots are sound with these objects, and the user roots
abbrev pub are_fixed : Objects → Contents → Bool
are_fixed objects c =
    list_all (is_permanent_root objects) (finite.entries c.permanent)
    && list_all (is_user_root objects) (finite.entries c.user_roots)

-- profiles and runtime roots are sound with these objects
abbrev pub are_moving : Objects → Contents → Bool
are_moving objects c = are_profiles objects c && list_all (is_runtime_root objects) (finite.entries c.runtime)

-- all roots but the temporary ones are sound with these objects
abbrev pub are_roots : Objects → Contents → Bool
are_roots objects c = are_fixed objects c && are_moving objects c

-- what sessions keep is sound with these objects
abbrev pub are_temporary : Objects → Contents → Bool
are_temporary objects c = list_all (is_temporary_root objects) (finite.entries c.temp_roots)

-- an outline, and the permanent roots and user roots of the rows
abbrev pub with_fixed : OutlineValue → Contents → OutlineValue
with_fixed o c = record o { permanent = c.permanent; user_roots = c.user_roots }

-- an outline, and the profiles of the rows with their generations
abbrev pub with_profiles : OutlineValue → Contents → OutlineValue
with_profiles o c = record o { profiles = (world_in c).profiles }

-- an outline, and the profiles and runtime roots of the rows
abbrev pub with_moving : OutlineValue → Contents → OutlineValue
with_moving o c = record (with_profiles o c) { runtime = c.runtime }

-- an outline, and all roots of the rows but the temporary ones
abbrev pub with_explicit : OutlineValue → Contents → OutlineValue
with_explicit o c =
    record o {
      permanent = c.permanent;
      user_roots = c.user_roots;
      profiles = (world_in c).profiles;
      runtime = c.runtime;
    }

-- an outline, and all roots of the rows
abbrev pub with_roots : OutlineValue → Contents → OutlineValue
with_roots o c = record (with_explicit o c) { temporary = (world_in c).temporary }

-- an outline that has no roots, or temporary ones alone
pub record HasNoExplicit (o : OutlineValue) : Type 0 where
  pub permanent : o.permanent ≡ finite.empty
  pub user_roots : o.user_roots ≡ finite.empty
  pub profiles : o.profiles ≡ finite.empty
  pub runtime : o.runtime ≡ finite.empty

-- the roots of the rows are sound, and so is what sessions keep
pub record AreAllSound (c : Rows) : Type 0 where
  pub roots : AreSoundRoots c
  pub sessions : (k : SessionPath) → IsTrue (finite.contains_key c.temp_roots k) → IsSoundSession c k

-- the objects are those of the rows, and have base names for paths
pub record AreObjects (objects : Objects) (c : Contents) : Type 0 where
  pub same : (p : Path) → finite.contains_key objects p ≡ finite.contains_key c.objects p
  pub named : (p : Path) → IsTrue (finite.contains_key objects p) → IsTrue (is_base_name p)
