-- The rules in the order in which they are tested, and the first that forbids.
use Rattle.std.specs.Prelude.{ℕ, Bool, true, false, not, ◌&&◌, ◌||◌, List, [], ◌∷◌, Option, Some, None}
use Rattle.std.specs.List.{find}
use Rattle.std.specs.Str.{bytes_eq}
use Rattle.policy.specs.Caller.{Caller}
use Rattle.policy.specs.Operation.{Operation, owner_of, drops_owned, imports_without_address, changes_permanent}
use Rattle.policy.specs.Operation.{replaces_runtime, ignore_liveness, deletes}
use Rattle.policy.specs.declared.kinds.Class.{Class}
use Rattle.policy.specs.declared.kinds.Class.TheVariants.{Stranger, Allowed, Trusted}
use Rattle.policy.specs.declared.kinds.Rule.{Rule}
use Rattle.policy.specs.declared.kinds.Rule.TheVariants.{Connect, TrustedImport, TrustedPermanentRoot}
use Rattle.policy.specs.declared.kinds.Rule.TheVariants.{TrustedRuntimeRoots, OwnRoot, NoIgnoreLiveness, Live}

-- whether a class is that of strangers, and that of trusted callers
abbrev pub is_stranger : Class → Bool
is_stranger Stranger = true
is_stranger Allowed = false
is_stranger Trusted = false

abbrev pub is_trusted : Class → Bool
is_trusted Trusted = true
is_trusted Stranger = false
is_trusted Allowed = false

-- whether an owner, where one is named, is the caller
abbrev pub is_own : Caller → Option (List ℕ) → Bool
is_own c None = true
is_own c (Some owner) = bytes_eq owner c.name

-- Whether a rule allows what a caller of a class asks. `names_live` is the world's answer: a path that the request
-- names is live.
abbrev pub allows : Class → Caller → Operation → Bool → Rule → Bool
allows class c op names_live Connect = not (is_stranger class)
allows class c op names_live TrustedImport = not (imports_without_address op) || is_trusted class
allows class c op names_live TrustedPermanentRoot = not (changes_permanent op) || is_trusted class
allows class c op names_live TrustedRuntimeRoots = not (replaces_runtime op) || is_trusted class
allows class c op names_live OwnRoot = is_own c (owner_of op) || (drops_owned op && is_trusted class)
allows class c op names_live NoIgnoreLiveness = not (ignore_liveness op)
allows class c op names_live Live = not (names_live && deletes op)

-- the rules in their order
abbrev pub rules : List Rule
rules = Connect ∷ TrustedImport ∷ TrustedPermanentRoot ∷ TrustedRuntimeRoots ∷ OwnRoot ∷ NoIgnoreLiveness ∷ Live ∷ []

-- the first rule that doesn't allow what is asked, if there is one
abbrev pub verdict : Class → Caller → Operation → Bool → Option Rule
verdict class c op names_live = find (λ rule. not (allows class c op names_live rule)) rules

-- the first rule other than `Live` that doesn't, which needs no world
abbrev pub first_broken : Class → Caller → Operation → Option Rule
first_broken class c op = verdict class c op false
