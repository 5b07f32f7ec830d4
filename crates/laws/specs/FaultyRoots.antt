-- Faults of roots, said of their rows.
use Rattle.std.specs.Prelude.{◌≡◌, ℕ, ◌<◌, ℤ, pos, ◌<ℤ◌, List, [], length, Some, None, IsTrue, IsFalse, Contains}
use Rattle.std.specs.FinMap as finite
use Rattle.paths.specs.Names.{is_plain_name}
use Rattle.tables_sql.specs.Contents.{Contents}
use Rattle.model.specs.World.{Path}
use Rattle.laws.specs.FaultyRows.{AreUnsound}

-- a permanent root of a name with a target
pub record ExcludesFaultyPermanent (c : Contents) (name : List ℕ) (t : Path) : Type 0 where
  pub name_not_plain : IsFalse (is_plain_name name) → AreUnsound c
  pub to_no_object : finite.get c.objects t ≡ None → AreUnsound c

-- a user root of an owner and a name with a target
pub record ExcludesFaultyUserRoot (c : Contents) (owner name : List ℕ) (t : Path) : Type 0 where
  pub owner_not_plain : IsFalse (is_plain_name owner) → AreUnsound c
  pub name_not_plain : IsFalse (is_plain_name name) → AreUnsound c
  pub to_no_object : finite.get c.objects t ≡ None → AreUnsound c

-- a runtime root of a label with a target: a label has 1 to 256 bytes of 33 to 126
pub record ExcludesFaultyRuntime (c : Contents) (label : List ℕ) (t : Path) : Type 0 where
  pub no_label : label ≡ [] → AreUnsound c
  pub label_too_long : 256 < length label → AreUnsound c
  pub low_byte : (b : ℕ) → Contains label b → b < 33 → AreUnsound c
  pub high_byte : (b : ℕ) → Contains label b → 126 < b → AreUnsound c
  pub to_no_object : finite.get c.objects t ≡ None → AreUnsound c

abbrev pub FaultyPermanentAreUnsound : Type 0
FaultyPermanentAreUnsound =
    (c : Contents) (name : List ℕ) (t : Path) → finite.get c.permanent name ≡ Some t → ExcludesFaultyPermanent c name t

abbrev pub FaultyUserRootsAreUnsound : Type 0
FaultyUserRootsAreUnsound =
    (c : Contents) (owner name : List ℕ) (t : Path) → finite.get c.user_roots (owner, name) ≡ Some t
    → ExcludesFaultyUserRoot c owner name t

abbrev pub FaultyRuntimeAreUnsound : Type 0
FaultyRuntimeAreUnsound =
    (c : Contents) (label : List ℕ) (t : Path) → IsTrue (finite.contains_key c.runtime (label, t))
    → ExcludesFaultyRuntime c label t

-- ---- profiles

-- a profile of an owner and a name with its current number
pub record ExcludesFaultyProfile (c : Contents) (owner name : List ℕ) (current : ℤ) : Type 0 where
  pub owner_not_plain : IsFalse (is_plain_name owner) → AreUnsound c
  pub name_not_plain : IsFalse (is_plain_name name) → AreUnsound c
  pub current_of_no_generation : finite.get c.generations (owner, name, current) ≡ None → AreUnsound c

-- a generation of a profile with its number and a target
pub record ExcludesFaultyGeneration (c : Contents) (owner name : List ℕ) (n : ℤ) (t : Path) : Type 0 where
  pub below_1 : n <ℤ pos 1 → AreUnsound c
  pub above_9999 : pos 9999 <ℤ n → AreUnsound c
  pub of_no_profile : finite.get c.profiles (owner, name) ≡ None → AreUnsound c
  pub to_no_object : finite.get c.objects t ≡ None → AreUnsound c

abbrev pub FaultyProfilesAreUnsound : Type 0
FaultyProfilesAreUnsound =
    (c : Contents) (owner name : List ℕ) (current : ℤ) → finite.get c.profiles (owner, name) ≡ Some current
    → ExcludesFaultyProfile c owner name current

abbrev pub FaultyGenerationsAreUnsound : Type 0
FaultyGenerationsAreUnsound =
    (c : Contents) (owner name : List ℕ) (n : ℤ) (t : Path) → finite.get c.generations (owner, name, n) ≡ Some t
    → ExcludesFaultyGeneration c owner name n t

-- ---- sessions

-- a path that a session of an owner keeps
pub record ExcludesFaultySession (c : Contents) (owner : List ℕ) (n : ℤ) (t : Path) : Type 0 where
  pub owner_not_plain : IsFalse (is_plain_name owner) → AreUnsound c
  pub below_1 : n <ℤ pos 1 → AreUnsound c
  pub above_4194304 : pos 4194304 <ℤ n → AreUnsound c
  pub to_no_object : finite.get c.objects t ≡ None → AreUnsound c

abbrev pub FaultySessionsAreUnsound : Type 0
FaultySessionsAreUnsound =
    (c : Contents) (owner : List ℕ) (n : ℤ) (t : Path) → IsTrue (finite.contains_key c.temp_roots (owner, n, t))
    → ExcludesFaultySession c owner n t
