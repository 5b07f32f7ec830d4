-- What follows from the definitions: each is the contract of a function of `src/laws.rt`.
use Rattle.std.specs.Prelude.{◌≡◌, ℕ, List, Some, None}
use Rattle.policy.specs.Caller.{Caller}
use Rattle.tool.specs.Requests.{owner_of}

-- without an owner's name the owner is the caller
abbrev pub CallersOwn : Type 0
CallersOwn = (c : Caller) → owner_of c None ≡ c.name

-- the owner who is named is the owner, whoever asks
abbrev pub NamedOwnersOwn : Type 0
NamedOwnersOwn = (c : Caller) (name : List ℕ) → owner_of c (Some name) ≡ name
