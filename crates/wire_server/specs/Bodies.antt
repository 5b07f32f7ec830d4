-- Reads of a body: what came, and what is kept for it.
use Rattle.std.specs.Prelude.{◌≡◌, ℕ, ◌+◌, ◌<◌, ◌≤◌, List, [], ◌++◌, length, take, drop, Option, Result, Ok, Err, IfErr}
use Rattle.std.specs.Prelude.{Bool, true, false, ⊤}
use Rattle.std.specs.Io.KnownBytes.{Consumes, IsAtEnd}
use Rattle.wire_server.specs.declared.error.WireError.{WireError}
use Rattle.wire_server.specs.declared.error.WireError.TheVariants.{Read, Write, Memory}

-- A reader failed, or memory was refused. No writer has a part in it.
abbrev pub IsOfReading : WireError → Type 0
IsOfReading Read = ⊤
IsOfReading Write = ⊥
IsOfReading Memory = ⊤

-- All bytes that are missing of a body were read, or the input ended before that.
pub record ReadsRest (old new : Option (List ℕ)) (left : ℕ) (read : List ℕ)
    (result : Result Bool WireError) : Type 0 where
  pub consumed : Consumes old new read
  pub whole : result ≡ Ok true → length read ≡ left
  pub short : result ≡ Ok false → IsAtEnd new × (length read < left)

-- The body of this size, after a head of `len` bytes, has come: part of it was held, the rest was read, and nothing
-- beyond it was read. Or the input ended inside the body.
pub record ReadsBody (old new : Option (List ℕ)) (held : List ℕ) (len size : ℕ)
    (result : Result Bool WireError) : Type 0 where
  pub read : List ℕ
  pub consumed : Consumes old new read
  pub whole : result ≡ Ok true
      → (len + size ≤ length (held ++ read)) × (drop (len + size) (held ++ read) ≡ drop (len + size) held)
  pub short : result ≡ Ok false → IsAtEnd new × (length (held ++ read) < len + size)

-- ---- bodies that are kept

-- What is kept stands for more bytes than before: those that came.
abbrev pub Grows : (List ℕ → Type 0) → (List ℕ → Type 0) → List ℕ → Type 0
Grows represents represents' more = (all : List ℕ) → represents all → represents' (all ++ more)

-- A body was kept as it came: what stood for some bytes stands for these and the body. If a read failed, part of it was
-- missing.
pub record KeepsBody (old new : Option (List ℕ)) (held : List ℕ) (len size : ℕ)
    (represents represents' : List ℕ → Type 0) (result : Result Bool WireError) : Type 0 where
  pub came : ReadsBody old new held len size result
  pub kept : result ≡ Ok true → Grows represents represents' (take size (drop len (held ++ came.read)))
  pub missing : result ≡ Err Read → length (held ++ came.read) < len + size
  pub fault : IfErr result IsOfReading

-- ---- inside the crate

-- the bytes that are missing of a body were kept; if a read failed, not all of them had come
pub record KeepsRest (old new : Option (List ℕ)) (left : ℕ) (represents represents' : List ℕ → Type 0)
    (result : Result Bool WireError) : Type 0 where
  pub read : List ℕ
  pub came : ReadsRest old new left read result
  pub kept : result ≡ Ok true → Grows represents represents' read
  pub missing : result ≡ Err Read → length read < left
  pub fault : IfErr result IsOfReading

-- The result of one read with room for a number of bytes: how many came and were kept, or none at the end of the input.
-- If the read failed, none came.
abbrev pub KeepsOn : ℕ → Option (List ℕ) → Option (List ℕ) → (List ℕ → Type 0) → (List ℕ → Type 0)
    → Result ℕ WireError → Type 0
KeepsOn room old new represents represents' (Ok n) =
    (read : List ℕ) × Consumes old new read × (length read ≡ n) × (n ≤ room) × (n ≡ 0 → IsAtEnd new)
    × Grows represents represents' read
KeepsOn room old new represents represents' (Err e) =
    ((read : List ℕ) × Consumes old new read × (e ≡ Read → read ≡ [])) × IsOfReading e
