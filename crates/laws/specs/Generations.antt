-- Laws of profiles: which generation a request that is done makes or takes, and that all others stay.
use Rattle.std.specs.Prelude.{◌≡◌, ℕ, ◌+◌, ◌<◌, ◌≤◌, List, Some, IsTrue, IsFalse}
use Rattle.std.specs.FinMap as finite
use Rattle.model.specs.World.{Path, Pair, Profile, World}
use Rattle.policy.specs.Settings.{Settings}
use Rattle.policy.specs.Caller.{Caller}
use Rattle.model.specs.Request.{set_profile, rollback, switch, delete_generation}
use Rattle.model.specs.Reply.{Answer, changed, generation, done}
use Rattle.model.specs.Profiles.{profile_at, has_generation}
use Rattle.model.specs.Step.{Step}

-- one profile is this one after, and nothing else changed
pub record ChangesProfile (w new : World) (owned : Pair) (now : Profile) : Type 0 where
  pub exists : finite.get new.profiles owned ≡ Some now
  pub others : (other : Pair) → (other ≡ owned → ⊥) → finite.get new.profiles other ≡ finite.get w.profiles other
  pub objects : new.objects ≡ w.objects
  pub permanent : new.permanent ≡ w.permanent
  pub user_roots : new.user_roots ≡ w.user_roots
  pub runtime : new.runtime ≡ w.runtime
  pub temporary : new.temporary ≡ w.temporary

-- ---- a path is set

-- the greatest number of a generation
pub record IsHighest (p : Profile) (n : ℕ) : Type 0 where
  pub present : IsTrue (has_generation p n)
  pub greatest : (m : ℕ) → IsTrue (has_generation p m) → m ≤ n

-- The number that a path gets: that of the highest generation, if it's the path's; the next one, if it isn't; 1, if
-- there's none.
pub data IsNumberFor (p : Profile) (t : Path) (n : ℕ) : Type 0 where
  again : IsHighest p n → finite.get p.generations n ≡ Some t → IsNumberFor p t n
  next : (m : ℕ) → IsHighest p m → (finite.get p.generations m ≡ Some t → ⊥) → n ≡ m + 1 → IsNumberFor p t n
  first : ((m : ℕ) → IsFalse (has_generation p m)) → n ≡ 1 → IsNumberFor p t n

-- The answer is the number that the path gets; this generation is the current one, and is the path's; every other is as
-- it was.
pub record SetsProfile (w : World) (owned : Pair) (t : Path) (a : Answer) (new : World) : Type 0 where
  pub number : ℕ
  pub reported : a ≡ generation number
  pub chosen : IsNumberFor (profile_at w owned) t number
  pub now : Profile
  pub change : ChangesProfile w new owned now
  pub current : now.current ≡ number
  pub target : finite.get now.generations number ≡ Some t
  pub others : (m : ℕ) → (m ≡ number → ⊥) → finite.get now.generations m ≡ finite.get (profile_at w owned).generations m

-- a profile that is set gets its generation, and the number is answered
abbrev pub SetsAsSpecified : Type 0
SetsAsSpecified = (s : Settings) (w : World) (c : Caller) (owner name : List ℕ) (t : Path) (a : Answer) (new : World)
    → Step s w c (set_profile owner name t) (done a) new → SetsProfile w (owner, name) t a new

-- ---- another generation becomes the current one

-- the profile was there, this number is now its current one, and its generations are as they were
pub record MovesTo (w : World) (owned : Pair) (n : ℕ) (new : World) : Type 0 where
  pub was : Profile
  pub existed : finite.get w.profiles owned ≡ Some was
  pub present : IsTrue (has_generation was n)
  pub now : Profile
  pub change : ChangesProfile w new owned now
  pub current : now.current ≡ n
  pub generations : now.generations ≡ was.generations

-- the generation before the current one: it is lower, and none is between the two
pub record IsPrevious (p : Profile) (n : ℕ) : Type 0 where
  pub present : IsTrue (has_generation p n)
  pub lower : n < p.current
  pub none_between : (m : ℕ) → IsTrue (has_generation p m) → n < m → m < p.current → ⊥

-- the answer is the number of that generation, to which the profile goes back
pub record RollsBack (w : World) (owned : Pair) (a : Answer) (new : World) : Type 0 where
  pub number : ℕ
  pub reported : a ≡ generation number
  pub moves : MovesTo w owned number new
  pub chosen : IsPrevious moves.was number

-- a profile that is rolled back goes to the generation before
abbrev pub RollsBackAsSpecified : Type 0
RollsBackAsSpecified = (s : Settings) (w : World) (c : Caller) (owner name : List ℕ) (a : Answer) (new : World)
    → Step s w c (rollback owner name) (done a) new → RollsBack w (owner, name) a new

-- a switch goes to the generation that is asked for, and answers its number
abbrev pub SwitchesAsSpecified : Type 0
SwitchesAsSpecified = (s : Settings) (w : World) (c : Caller) (owner name : List ℕ) (n : ℕ) (a : Answer) (new : World)
    → Step s w c (switch owner name n) (done a) new → (a ≡ generation n) × MovesTo w (owner, name) n new

-- ---- a generation is deleted

-- a profile loses a generation that wasn't the current one: the current number and every other generation are as they
-- were
pub record LosesGeneration (w : World) (owned : Pair) (n : ℕ) (new : World) : Type 0 where
  pub was : Profile
  pub existed : finite.get w.profiles owned ≡ Some was
  pub present : IsTrue (has_generation was n)
  pub not_current : was.current ≡ n → ⊥
  pub now : Profile
  pub change : ChangesProfile w new owned now
  pub deleted : IsFalse (has_generation now n)
  pub others : (m : ℕ) → (m ≡ n → ⊥) → finite.get now.generations m ≡ finite.get was.generations m
  pub current : now.current ≡ was.current

-- a deletion takes the generation that is asked for, and no other
abbrev pub DeletesGenerations : Type 0
DeletesGenerations = (s : Settings) (w : World) (c : Caller) (owner name : List ℕ) (n : ℕ) (a : Answer) (new : World)
    → Step s w c (delete_generation owner name n) (done a) new → (a ≡ changed) × LosesGeneration w (owner, name) n new
