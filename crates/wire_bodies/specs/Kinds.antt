-- The values that texts in a body stand for.
use Rattle.std.specs.Prelude.{ℕ, ◌==◌, Bool, true, false, if◌then◌else◌, List, drop, codes, cond, Option, Some, None}
use Rattle.std.specs.Prelude.{option_map, Result, Ok, Err}
use Rattle.std.specs.List.{before_first, after_first}
use Rattle.std.specs.Str.{bytes_eq}
use Rattle.paths.specs.Names.{is_store_name, begins}
use Rattle.paths.specs.StorePath.{is_base_name, base_of}
use Rattle.paths.specs.Base32.{unbase32}
use Rattle.paths.specs.declared.digits.Base32Error.{Base32Error}

-- a path text: a full path in the directory, or a base name
abbrev pub path_text : List ℕ → List ℕ → Option (List ℕ)
path_text dir text = cond (is_base_name (base_of dir text)) (Some (base_of dir text)) None

-- a store name
abbrev pub name_text : List ℕ → Option (List ℕ)
name_text text = cond (is_store_name text) (Some text) None

abbrev pub digest_of : Result (List ℕ) Base32Error → Option (List ℕ)
digest_of (Ok bytes) = Some bytes
digest_of (Err e) = None

-- the 32 bytes that 52 digits after `sha256:` spell
abbrev pub hash_text : List ℕ → Option (List ℕ)
hash_text text = if begins text (codes "sha256:") then digest_of (unbase32 (drop 7 text) 32) else None

-- `true` or `false`
abbrev pub flag_text : List ℕ → Option Bool
flag_text text =
    cond (bytes_eq text (codes "true")) (Some true) (cond (bytes_eq text (codes "false")) (Some false) None)

abbrev pub is_space : ℕ → Bool
is_space b = b == 32

-- a label and the path that a path text names, with the first space between
abbrev pub root_text : List ℕ → List ℕ → Option (List ℕ × List ℕ)
root_text dir text = option_map (λ p. (before_first is_space text, p)) (path_text dir (after_first is_space text))
