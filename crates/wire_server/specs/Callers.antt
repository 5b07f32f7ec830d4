-- The caller that the fields of a head name.
use Rattle.std.specs.Prelude.{ℕ, List, [], ◌∷◌, codes, cond, Option, Some, None}
use Rattle.wire_server.specs.Fields.{Fields, values}
use Rattle.policy.specs.Caller.{Caller, caller_of, is_caller}

-- the caller of a name and a group, where both are plain names
abbrev pub named : List ℕ → Option (List ℕ) → Option Caller
named name group = cond (is_caller (caller_of name group)) (Some (caller_of name group)) None

-- the caller of one name, and of one group or none
abbrev pub caller_by : List (List ℕ) → List (List ℕ) → Option Caller
caller_by (name ∷ []) [] = named name None
caller_by (name ∷ []) (group ∷ []) = named name (Some group)
caller_by _ _ = None

-- the caller that `store-user` and `store-group` name
abbrev pub caller_in : Fields → Option Caller
caller_in fields = caller_by (values (codes "store-user") fields) (values (codes "store-group") fields)
