-- What a writer has after it was given bytes.
use Rattle.std.specs.Prelude.{ℕ, ◌<◌, List, length, take, Option, Result, Ok, Err}
use Rattle.std.specs.Io.KnownBytes.{Appends}
use Rattle.std.specs.declared.io.Error.{Error}

-- a prefix of some bytes, and not all of them, was appended
abbrev pub AppendsPrefix : Option (List ℕ) → Option (List ℕ) → List ℕ → Type 0
AppendsPrefix old new bytes = (n : ℕ) × (n < length bytes) × Appends old new (take n bytes)

-- all of some bytes were appended, or a prefix of them if the writer failed
abbrev pub Sends : Option (List ℕ) → Option (List ℕ) → List ℕ → Result (Unit {0}) Error → Type 0
Sends old new bytes (Ok u) = Appends old new bytes
Sends old new bytes (Err fault) = AppendsPrefix old new bytes
