-- A caller, as contracts see it.
use Rattle.std.specs.Prelude.{ℕ, Bool, true, ◌&&◌, List, Option, Some, None}
use Rattle.paths.specs.Names.{is_plain_name}

-- a caller: the name and, where one is known, the primary group that were passed
pub record Caller : Type 0 where
  pub name : List ℕ
  pub group : Option (List ℕ)

-- the caller of a name and a group
abbrev pub caller_of : List ℕ → Option (List ℕ) → Caller
caller_of name group = record { name = name; group = group }

-- whether a group, where there is one, is a plain name
abbrev pub is_plain_group : Option (List ℕ) → Bool
is_plain_group None = true
is_plain_group (Some group) = is_plain_name group

-- whether name and group are plain names
abbrev pub is_caller : Caller → Bool
is_caller c = is_plain_name c.name && is_plain_group c.group
