-- The contents of a file that isn't executable, by the bytes of its archive that have come.
use Rattle.std.specs.Prelude.{ℕ, Bool, List, [], ◌∷◌, take, drop, codes, Option, Some, None, Result, Ok, Err}
use Rattle.std.specs.Prelude.{if◌then◌else◌}
use Rattle.std.specs.Str.{bytes_eq}
use Rattle.sha2.specs.Sha256.{sha256}
use Rattle.nar.specs.declared.error.NarError.{NarError}
use Rattle.nar.specs.String.{length_at}
use Rattle.nar.specs.Tree.{Tree, regular, symlink, directory}
use Rattle.nar.specs.Archive.{other, spelling}

-- what the archive of such a file begins with, up to the length of its contents: 88 bytes
unfoldable pub plain_prefix : List ℕ
plain_prefix =
    spelling (other (codes "nix-archive-1")
    ∷ other (codes "(") ∷ other (codes "type") ∷ other (codes "regular") ∷ other (codes "contents") ∷ [])

abbrev pub begins_plain : List ℕ → Bool
begins_plain bytes = bytes_eq (take 88 bytes) plain_prefix

-- as many of the bytes after the prefix and the length as the length says
abbrev pub after_prefix : List ℕ → List ℕ
after_prefix bytes = take (length_at (drop 88 bytes)) (drop 96 bytes)

-- the contents that have come: none, if the bytes don't begin with that prefix
abbrev pub contents_so_far : List ℕ → List ℕ
contents_so_far bytes = if begins_plain bytes then after_prefix bytes else []

-- SHA-256 of the contents that have come, if the bytes begin with that prefix
abbrev pub hash_so_far : List ℕ → Option (List ℕ)
hash_so_far bytes = if begins_plain bytes then Some (sha256 (contents_so_far bytes)) else None

-- the contents of a regular file, executable or not
abbrev pub contents_of : Result Tree NarError → Option (List ℕ)
contents_of (Ok (regular _ contents)) = Some contents
contents_of (Ok (symlink _)) = None
contents_of (Ok (directory _)) = None
contents_of (Err _) = None
