-- Strings of an archive: a length, the bytes, and zero bytes up to a multiple of 8.
use Rattle.std.specs.Prelude.{ℕ, ◌+◌, ◌-◌, ◌*◌, ◌/◌, List, ◌++◌, length, take, drop, replicate, Result, Ok, Err, nat_lt}
use Rattle.std.specs.Prelude.{◌==◌, if◌then◌else◌}
use Rattle.std.specs.List.{list_all}
use Rattle.std.specs.Int.{w64, to_le_bytes, from_le_bytes}
use Rattle.nar.specs.declared.error.NarError.{NarError}
use Rattle.nar.specs.declared.error.NarError.TheVariants.{Truncated, TooLarge, BadPadding}

-- the least multiple of 8 that isn't below n
abbrev pub padded : ℕ → ℕ
padded n = 8 * ((n + 7) / 8)

-- the length as 8 bytes, lowest first, the bytes, and the fewest zero bytes that reach a multiple of 8
unfoldable pub string : List ℕ → List ℕ
string s = to_le_bytes w64 (length s) ++ s ++ replicate (padded (length s) - length s) 0

-- how many bytes a string takes whose length is n
abbrev pub size_of : ℕ → ℕ
size_of n = 8 + padded n

-- the number that the first 8 bytes spell
abbrev pub length_at : List ℕ → ℕ
length_at bytes = from_le_bytes w64 (take 8 bytes)

-- The string of length n at the beginning of the bytes, where it may take this number of them, and the bytes after
-- it; or the first of four tests that fails.
unfoldable pub string_of_length : ℕ → ℕ → List ℕ → Result (List ℕ × List ℕ) NarError
string_of_length n room bytes =
    if nat_lt (length bytes) 8 then Err Truncated
    else (if nat_lt room (size_of n) then Err TooLarge
    else (if nat_lt (length bytes) (size_of n) then Err Truncated
    else (if list_all (λ b. b == 0) (take (padded n - n) (drop n (drop 8 bytes)))
    then Ok (take n (drop 8 bytes), drop (size_of n) bytes)
    else Err BadPadding)))

-- the string at the beginning of the bytes
abbrev pub string_at : ℕ → List ℕ → Result (List ℕ × List ℕ) NarError
string_at room bytes = string_of_length (length_at bytes) room bytes
