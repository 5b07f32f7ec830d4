-- What follows from the rules and their order: each is the contract of a function of `src/laws.rt`.
use Rattle.std.specs.Prelude.{◌≡◌, ℕ, Bool, true, false, if◌then◌else◌, ◌&&◌, List, [], ◌∷◌, codes, Some, None, Ok}
use Rattle.std.specs.Option.{option_or}
use Rattle.std.specs.FinMap.{empty}
use Rattle.toml.specs.Data.{no_members}
use Rattle.policy.specs.Caller.{Caller, caller_of}
use Rattle.policy.specs.Operation.{Operation, plain, import_object, set_permanent, drop_permanent, replace_runtime}
use Rattle.policy.specs.Operation.{set_user_root, drop_user_root, set_profile, rollback, switch, delete_generation}
use Rattle.policy.specs.Operation.{add_temp, end_session, collect, delete, deletes}
use Rattle.policy.specs.Rules.{verdict, first_broken, is_stranger}
use Rattle.policy.specs.Settings.{everyone, user}
use Rattle.policy.specs.Toml.{settings_of}
use Rattle.policy.specs.declared.kinds.Class.{Class}
use Rattle.policy.specs.declared.kinds.Class.TheVariants.{Stranger, Allowed, Trusted}
use Rattle.policy.specs.declared.kinds.Rule.TheVariants.{Connect, TrustedImport, TrustedPermanentRoot}
use Rattle.policy.specs.declared.kinds.Rule.TheVariants.{TrustedRuntimeRoots, OwnRoot, NoIgnoreLiveness, Live}

-- The world is asked last, and only of a deletion by name: it changes no verdict but that nothing forbids.
abbrev pub LiveIsAskedLast : Type 0
LiveIsAskedLast = (class : Class) (c : Caller) (op : Operation) (names_live : Bool)
    → verdict class c op names_live
    ≡ option_or (first_broken class c op) (if names_live && deletes op then Some Live else None)

-- whatever a stranger asks, the denial is `Connect`
abbrev pub StrangersMayNotConnect : Type 0
StrangersMayNotConnect =
    (c : Caller) (op : Operation) (names_live : Bool) → verdict Stranger c op names_live ≡ Some Connect

-- an operation with nothing that a rule asks about is denied to strangers alone
abbrev pub PlainIsForAllOthers : Type 0
PlainIsForAllOthers =
    (class : Class) (c : Caller) → first_broken class c plain ≡ (if is_stranger class then Some Connect else None)

-- two users
abbrev pub ann : Caller
ann = caller_of (codes "ann") None

abbrev pub bob : List ℕ
bob = codes "bob"

-- what is kept for trusted callers: imports without a content address, permanent and runtime roots
abbrev pub ReservedForTrusted : Type 0
ReservedForTrusted =
    (first_broken Allowed ann (import_object false) ≡ Some TrustedImport)
    × (first_broken Allowed ann (import_object true) ≡ None)
    × (first_broken Trusted ann (import_object false) ≡ None)
    × (first_broken Allowed ann set_permanent ≡ Some TrustedPermanentRoot)
    × (first_broken Allowed ann drop_permanent ≡ Some TrustedPermanentRoot)
    × (first_broken Trusted ann set_permanent ≡ None)
    × (first_broken Trusted ann drop_permanent ≡ None)
    × (first_broken Allowed ann replace_runtime ≡ Some TrustedRuntimeRoots)
    × (first_broken Trusted ann replace_runtime ≡ None)

-- what is the owner's: all but that a trusted caller may drop
abbrev pub ReservedForOwner : Type 0
ReservedForOwner =
    (first_broken Allowed ann (set_user_root (codes "ann")) ≡ None)
    × (first_broken Trusted ann (set_user_root bob) ≡ Some OwnRoot)
    × (first_broken Trusted ann (set_profile bob) ≡ Some OwnRoot)
    × (first_broken Trusted ann (rollback bob) ≡ Some OwnRoot)
    × (first_broken Trusted ann (switch bob) ≡ Some OwnRoot)
    × (first_broken Allowed ann (rollback (codes "ann")) ≡ None)
    × (first_broken Allowed ann (switch (codes "ann")) ≡ None)
    × (first_broken Allowed ann (drop_user_root bob) ≡ Some OwnRoot)
    × (first_broken Trusted ann (drop_user_root bob) ≡ None)
    × (first_broken Allowed ann (delete_generation bob) ≡ Some OwnRoot)
    × (first_broken Trusted ann (delete_generation bob) ≡ None)
    × (first_broken Allowed ann (set_profile (codes "ann")) ≡ None)
    × (first_broken Allowed ann (add_temp (codes "ann")) ≡ None)
    × (first_broken Trusted ann (add_temp bob) ≡ Some OwnRoot)
    × (first_broken Allowed ann (end_session bob) ≡ Some OwnRoot)
    × (first_broken Trusted ann (end_session bob) ≡ None)

-- what nobody may: ignore liveness, or delete what is live
abbrev pub ForbiddenToAll : Type 0
ForbiddenToAll =
    (first_broken Allowed ann (collect true) ≡ Some NoIgnoreLiveness)
    × (first_broken Trusted ann (collect true) ≡ Some NoIgnoreLiveness)
    × (first_broken Trusted ann (collect false) ≡ None)
    × (verdict Trusted ann (delete true) true ≡ Some NoIgnoreLiveness)
    × (verdict Trusted ann (delete false) true ≡ Some Live)
    × (verdict Trusted ann (collect false) true ≡ None)
    × (verdict Allowed ann (delete false) false ≡ None)
    × (verdict Stranger ann (delete true) true ≡ Some Connect)

-- the settings of a table without keys: each key's default
abbrev pub KeysHaveDefaults : Type 0
KeysHaveDefaults = settings_of no_members ≡ Ok (record {
  store_dir = codes "/nix/store";
  allowed_users = everyone ∷ [];
  trusted_users = user (codes "root") ∷ [];
  keep_outputs = false;
  keep_derivations = true;
  groups = empty;
})
