-- What a checker that is fed an archive in pieces knows of the bytes so far.
use Rattle.std.specs.Prelude.{◌≡◌, ◌≢◌, ℕ, ◌+◌, ◌-◌, ◌<◌, ◌≤◌, List, [], ◌∷◌, ◌++◌, length, drop, Option, Some, None}
use Rattle.std.specs.Prelude.{Err, IsTrue, ◌==◌}
use Rattle.std.specs.List.{AllByRecursion, list_all}
use Rattle.nar.specs.declared.error.NarError.TheVariants.{Truncated}
use Rattle.nar.specs.declared.count.Count.{Count}
use Rattle.nar.specs.declared.nest.Nest.{Nest}
use Rattle.nar.specs.String.{string_at, length_at, size_of}
use Rattle.nar.specs.Archive.{Part, IsShallow, spelling, limit}
use Rattle.nar.specs.Steps.{Symbol, AreBytes, run, start}
use Rattle.nar.specs.NestView.{symbols_of, counts_at}

-- The bytes so far are whole strings that the machine takes, up to these symbols, and a rest.
pub record Fed (symbols : List Symbol) (room : ℕ) (rest : List ℕ) (bytes : List ℕ) : Type 0 where
  pub parts : List Part
  pub spells : bytes ≡ spelling parts ++ rest
  pub takes : run start parts ≡ Some symbols
  pub shallow : AllByRecursion IsShallow parts
  pub are_bytes : AreBytes parts
  pub size : length (spelling parts) + room ≡ limit

-- The rest is less than a string; it is empty if no string may come.
abbrev pub Waits : List Symbol → ℕ → List ℕ → Type 0
Waits [] room rest = rest ≡ []
Waits (x ∷ κ) room rest = string_at room rest ≡ Err Truncated

-- the bytes end in the rest
abbrev pub EndsIn : List ℕ → List ℕ → Type 0
EndsIn bytes rest = (prefix : List ℕ) × (bytes ≡ prefix ++ rest)

-- The count is right for these bytes of a string.
pub record Counts (k : Count) (room : ℕ) (rest : List ℕ) : Type 0 where
  pub text_is : k.text ≡ 8 + length_at rest
  pub size_is : k.size ≡ size_of (length_at rest)
  pub got_is : k.got ≡ length rest
  pub long : 8 ≤ length rest
  pub within : length rest ≤ size_of (length_at rest)
  pub fits : size_of (length_at rest) ≤ room
  pub clean : k.is_clean ≡ list_all (λ b. b == 0) (drop k.text rest)

-- A string has begun whose bytes are counted: they are the rest, and aren't stored.
pub record IsCounting (k : Count) (nest : Nest) (room : ℕ) (bytes : List ℕ) : Type 0 where
  pub rest : List ℕ
  pub fed : Fed (symbols_of nest) room rest bytes
  pub counts : Counts k room rest
  pub early : length rest < size_of (length_at rest)
  pub some : symbols_of nest ≢ []
  pub is_counted : IsTrue (counts_at nest (k.text - 8))

-- The bytes are good so far, up to the part of a string that is stored or counted.
abbrev pub IsReachedBy : Option Count → Nest → ℕ → List ℕ → List ℕ → Type 0
IsReachedBy None nest room held bytes = Fed (symbols_of nest) room held bytes × Waits (symbols_of nest) room held
IsReachedBy (Some k) nest room held bytes = (held ≡ []) × IsCounting k nest room bytes
