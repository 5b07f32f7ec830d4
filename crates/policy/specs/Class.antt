-- The user lists that match a caller, and the caller's class.
use Rattle.std.specs.Prelude.{ℕ, Bool, true, false, ◌||◌, if◌then◌else◌, List, Option, Some, None}
use Rattle.std.specs.List.{list_any}
use Rattle.std.specs.Str.{bytes_eq}
use Rattle.std.specs.FinMap.{get, contains_key}
use Rattle.policy.specs.Settings.{Entry, everyone, user, group, Users, Groups, Settings}
use Rattle.policy.specs.Caller.{Caller}
use Rattle.policy.specs.declared.kinds.Class.{Class}
use Rattle.policy.specs.declared.kinds.Class.TheVariants.{Stranger, Allowed, Trusted}

-- whether g is the caller's primary group
abbrev pub is_primary : List ℕ → Option (List ℕ) → Bool
is_primary g None = false
is_primary g (Some primary) = bytes_eq primary g

-- whether the members of a group, where it has any, hold the name
abbrev pub holds : Option Users → List ℕ → Bool
holds None name = false
holds (Some members) name = contains_key members name

-- whether g is the caller's primary group, or a group of the settings whose members hold the caller's name
abbrev pub is_in_group : Groups → Caller → List ℕ → Bool
is_in_group groups c g = is_primary g c.group || holds (get groups g) c.name

-- whether an entry matches the caller: everyone, the caller's name, or a group of the caller's
abbrev pub admits : Groups → Caller → Entry → Bool
admits groups c everyone = true
admits groups c (user name) = bytes_eq name c.name
admits groups c (group g) = is_in_group groups c g

-- whether a user list matches a caller
abbrev pub matches : Groups → Caller → List Entry → Bool
matches groups c entries = list_any (admits groups c) entries

-- trusted where the trusted list matches, else allowed where the allowed list does, else a stranger
abbrev pub class_of : Settings → Caller → Class
class_of s c =
    if matches s.groups c s.trusted_users then Trusted else if matches s.groups c s.allowed_users then Allowed
    else Stranger
