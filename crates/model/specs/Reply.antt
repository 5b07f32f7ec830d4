-- What a store replies.
use Rattle.std.specs.Prelude.{ℕ, List, Option}
use Rattle.paths.specs.ContentAddress.{ContentAddress}
use Rattle.model.specs.World.{Path, Pair}
use Rattle.model.specs.declared.refusal.Refusal.{Refusal}
use Rattle.policy.specs.declared.kinds.Rule.{Rule}

-- what a call may want
pub data Failed : Type 0 where
  memory : Failed
  size : Failed
  disk : Failed

-- the record of an object: its path, the SHA-256 digest and the number of bytes of its archive, its references in the
-- order of paths, its deriver and its content address
pub record Info : Type 0 where
  pub path : Path
  pub hash : List ℕ
  pub size : ℕ
  pub references : List Path
  pub deriver : Option Path
  pub ca : Option ContentAddress

-- a number of paths, and the sum of the bytes of their archives
pub record Usage : Type 0 where
  pub paths : ℕ
  pub bytes : ℕ

pub data Answer : Type 0 where
  path : Path → Answer
  record_of : Info → Answer
  -- the bytes of an archive
  archive_of : List ℕ → Answer
  listing_of : List ℕ → Answer
  paths : List Path → Answer
  -- labels and targets
  roots : List Pair → Answer
  -- set, added, dropped or deleted
  changed : Answer
  -- the number of a generation
  generation : ℕ → Answer
  -- how many runtime roots there are
  runtime_count : ℕ → Answer
  -- how many temporary roots a session had
  temporary_count : ℕ → Answer
  -- the paths that were deleted, and the sum of the bytes of their archives
  freed : List Path → ℕ → Answer
  -- of the live, the dead and all paths
  usage : Usage → Usage → Usage → Answer

pub data Reply : Type 0 where
  done : Answer → Reply
  -- the rule; for `Live` the label and the target of a root that keeps a path
  denied : Rule → Option Pair → Reply
  -- what the first test that fails is refused with
  refused : Refusal → Reply
  failed : Failed → Reply

abbrev pub IsDone : Reply → Type 0
IsDone (done a) = Unit {0}
IsDone (denied rule root) = ⊥
IsDone (refused r) = ⊥
IsDone (failed f) = ⊥

abbrev pub HasFailed : Reply → Type 0
HasFailed (failed f) = Unit {0}
HasFailed (done a) = ⊥
HasFailed (denied rule root) = ⊥
HasFailed (refused r) = ⊥
