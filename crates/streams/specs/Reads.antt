-- What is read from an input, and passed on.
use Rattle.std.specs.Prelude.{◌≡◌, ◌≤◌, ◌<◌, ◌++◌, ℕ, List, [], length, Option, Some, None, Result, Ok, Err}
use Rattle.std.specs.Io.KnownBytes.{Consumes, IsAtEnd, Keeps}
use Rattle.streams.specs.declared.error.ReadError.{ReadError}
use Rattle.streams.specs.declared.error.ReadError.TheVariants.{Input, Memory}

-- no more than some number of bytes were read from an input
abbrev pub ConsumesAtMost : ℕ → Option (List ℕ) → Option (List ℕ) → Type 0
ConsumesAtMost most old new = (bs : List ℕ) × Consumes old new bs × (length bs ≤ most)

-- fewer than some number of bytes were read from an input
abbrev pub TakesFewer : ℕ → Option (List ℕ) → Option (List ℕ) → Type 0
TakesFewer most old new = (bs : List ℕ) × Consumes old new bs × (length bs < most)

-- no more than some number of bytes were read from an input, and at least one
abbrev pub TakesSome : ℕ → Option (List ℕ) → Option (List ℕ) → Type 0
TakesSome most old new = (bs : List ℕ) × Consumes old new bs × (0 < length bs) × (length bs ≤ most)

-- The result of one read with room for a number of bytes: how many bytes it took from the input and passed on, or none
-- at the end of the input. If the reader failed, nothing was read or passed on. If the sink was refused memory, the
-- bytes that came were read.
abbrev pub ReadsOn : ℕ → Option (List ℕ) → Option (List ℕ) → List ℕ → List ℕ → Result (Option ℕ) ReadError → Type 0
ReadsOn room old new held held' (Ok (Some n)) =
    (bs : List ℕ) × Consumes old new bs × (length bs ≡ n) × (0 < n) × (n ≤ room) × (held' ≡ held ++ bs)
ReadsOn room old new held held' (Ok None) = Consumes old new [] × IsAtEnd new × (held' ≡ held)
ReadsOn room old new held held' (Err Input) = Keeps old new × (held' ≡ held)
ReadsOn room old new held held' (Err Memory) = TakesSome room old new

-- The bytes that were read from an input, up to a greatest number, and whether they were passed on. At success, and if
-- the reader failed, all were passed on. They are fewer than that number only if the input ended or the reader failed.
-- If memory was refused, it was for bytes that came.
abbrev pub PassesOn : ℕ → List ℕ → Option (List ℕ) → List ℕ → List ℕ → Result ℕ ReadError → Type 0
PassesOn most bs new held held' (Ok n) = (n ≡ length bs) × (held' ≡ held ++ bs) × (n < most → IsAtEnd new)
PassesOn most bs new held held' (Err Input) = (length bs < most) × (held' ≡ held ++ bs)
PassesOn most bs new held held' (Err Memory) = 0 < length bs

-- An input was read to a bound, and what was read from it was passed on.
abbrev pub Receives : ℕ → Option (List ℕ) → Option (List ℕ) → List ℕ → List ℕ → Result ℕ ReadError → Type 0
Receives most old new held held' result =
    (bs : List ℕ) × Consumes old new bs × (length bs ≤ most) × PassesOn most bs new held held' result
