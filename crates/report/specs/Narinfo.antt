-- The record of an object as the text that binary caches serve: a line for each word.
use Rattle.std.specs.Prelude.{ℕ, List, [], ◌++◌, codes, decimal, Option, Some, None, option_map}
use Rattle.std.specs.List.{join_with_byte}
use Rattle.paths.specs.Base32.{base32}
use Rattle.paths.specs.StorePath.{full_path}
use Rattle.paths.specs.ContentAddress.{address_text}
use Rattle.model.specs.Reply.{Info}

-- a word and its value
abbrev pub line : List ℕ → List ℕ → List ℕ
line word value = word ++ codes ": " ++ value ++ codes "\n"

-- a line for a value, or nothing for `None`
abbrev pub line_if : List ℕ → Option (List ℕ) → List ℕ
line_if word None = []
line_if word (Some value) = line word value

-- a SHA-256 digest as it is written
abbrev pub digest_text : List ℕ → List ℕ
digest_text digest = codes "sha256:" ++ base32 digest

-- The text; a space is between references. Nothing is compressed, so the file is the archive.
abbrev pub narinfo : List ℕ → Info → List ℕ
narinfo dir i =
    line (codes "StorePath") (full_path dir i.path)
    ++ line (codes "URL") (codes "nar/" ++ i.path)
    ++ line (codes "Compression") (codes "none")
    ++ line (codes "FileHash") (digest_text i.hash)
    ++ line (codes "FileSize") (decimal i.size)
    ++ line (codes "NarHash") (digest_text i.hash)
    ++ line (codes "NarSize") (decimal i.size)
    ++ line (codes "References") (join_with_byte 32 i.references)
    ++ line_if (codes "Deriver") i.deriver
    ++ line_if (codes "CA") (option_map address_text i.ca)
