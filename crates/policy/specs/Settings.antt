-- The settings that a configuration holds.
use Rattle.std.specs.Prelude.{ℕ, Bool, List}
use Rattle.std.specs.Ordering.{nat_cmp}
use Rattle.std.specs.Cmp.Lexicographic.{slice_cmp}
use Rattle.std.specs.FinMap.{FinMap}

-- an entry of a user list: everyone, the user of a name, or each user of a group
pub data Entry : Type 0 where
  everyone : Entry
  user : List ℕ → Entry
  group : List ℕ → Entry

-- a set of user names
abbrev pub Users : Type 0
Users = FinMap (slice_cmp nat_cmp) (Unit {0})

-- the groups: from a name to the members
abbrev pub Groups : Type 0
Groups = FinMap (slice_cmp nat_cmp) Users

pub record Settings : Type 0 where
  pub store_dir : List ℕ
  pub allowed_users : List Entry
  pub trusted_users : List Entry
  pub keep_outputs : Bool
  pub keep_derivations : Bool
  pub groups : Groups
