-- What an intake knows of the bytes that it has received, and what it reports of them.
use Rattle.std.specs.Prelude.{List, ℕ, [], ◌++◌, ◌*◌, ◌/◌, length, take, Option, Some, None, Result, Ok, Err, ⊤}
use Rattle.sha2.specs.declared.Sha256.{Sha256}
use Rattle.sha2.specs.Hashers.{Holds256}
use Rattle.nar.specs.declared.error.NarError.{NarError}
use Rattle.nar.specs.declared.error.NarError.TheVariants.{Memory}
use Rattle.nar.specs.declared.checker.Checker.{Checker}
use Rattle.nar.specs.Checker.{HasBeenFed, HasFailed}
use Rattle.nar.specs.Tree.{Tree}
use Rattle.intake.specs.Contents.{contents_so_far}

-- a running digest holds these bytes, if there is one
abbrev pub MayHold : Option Sha256 → List ℕ → Type 0
MayHold None bytes = ⊤
MayHold (Some hasher) bytes = Holds256 hasher bytes

-- The checker has received these bytes, and was refused no memory. Each whole piece of them is hashed; so is its part
-- of a file's contents, if their digest is asked for.
pub record HasAccepted (checker : Checker) (hasher : Sha256) (contents : Option Sha256) (bytes : List ℕ) : Type 0 where
  pub fed : HasBeenFed checker bytes
  pub sound : ¬ HasFailed checker Memory
  pub hashed : Holds256 hasher (take (65536 * (length bytes / 65536)) bytes)
  pub contents_hashed : MayHold contents (contents_so_far (take (65536 * (length bytes / 65536)) bytes))

-- the bytes and a piece after them; nothing if the intake is spent
abbrev pub appended : Option (List ℕ) → List ℕ → Option (List ℕ)
appended None piece = None
appended (Some bytes) piece = Some (bytes ++ piece)

-- the bytes that have come; none if the intake is spent
abbrev pub bytes_in : Option (List ℕ) → List ℕ
bytes_in None = []
bytes_in (Some bytes) = bytes

-- what is wrong with bytes as an archive, if anything is
abbrev pub fault_of : Result Tree NarError → Option NarError
fault_of (Ok tree) = None
fault_of (Err e) = Some e
