-- What the rules ask of a request: its kind, and with some kinds an owner or a flag. Each definition names each kind,
-- so that a new one isn't let through because it was forgotten.
use Rattle.std.specs.Prelude.{ℕ, Bool, true, false, not, List, Option, Some, None}
use Rattle.policy.specs.declared.kinds.Op.{Op}
use Rattle.policy.specs.declared.kinds.Op.TheVariants.{Plain, Import, SetPermanent, DropPermanent, ReplaceRuntime}
use Rattle.policy.specs.declared.kinds.Op.TheVariants.{SetUserRoot, DropUserRoot, SetProfile, Rollback, Switch}
use Rattle.policy.specs.declared.kinds.Op.TheVariants.{DeleteGeneration, AddTemp, EndSession, Collect, Delete}

pub data Operation : Type 0 where
  -- what every caller who may connect may ask
  plain : Operation
  -- an import, and whether the object has a content address
  import_object : Bool → Operation
  set_permanent : Operation
  drop_permanent : Operation
  replace_runtime : Operation
  -- with the owner of the root or the profile
  set_user_root : List ℕ → Operation
  drop_user_root : List ℕ → Operation
  set_profile : List ℕ → Operation
  rollback : List ℕ → Operation
  switch : List ℕ → Operation
  delete_generation : List ℕ → Operation
  -- with the owner of the session
  add_temp : List ℕ → Operation
  end_session : List ℕ → Operation
  -- with the flag to ignore liveness
  collect : Bool → Operation
  delete : Bool → Operation

-- the owner that an operation names
abbrev pub owner_of : Operation → Option (List ℕ)
owner_of (set_user_root owner) = Some owner
owner_of (drop_user_root owner) = Some owner
owner_of (set_profile owner) = Some owner
owner_of (rollback owner) = Some owner
owner_of (switch owner) = Some owner
owner_of (delete_generation owner) = Some owner
owner_of (add_temp owner) = Some owner
owner_of (end_session owner) = Some owner
owner_of plain = None
owner_of (import_object has_address) = None
owner_of set_permanent = None
owner_of drop_permanent = None
owner_of replace_runtime = None
owner_of (collect flag) = None
owner_of (delete flag) = None

-- whether it drops what has an owner, a user root, a generation or a session's roots: a trusted caller may do so for
-- another
abbrev pub drops_owned : Operation → Bool
drops_owned (drop_user_root owner) = true
drops_owned (delete_generation owner) = true
drops_owned (end_session owner) = true
drops_owned plain = false
drops_owned (import_object has_address) = false
drops_owned set_permanent = false
drops_owned drop_permanent = false
drops_owned replace_runtime = false
drops_owned (set_user_root owner) = false
drops_owned (set_profile owner) = false
drops_owned (rollback owner) = false
drops_owned (switch owner) = false
drops_owned (add_temp owner) = false
drops_owned (collect flag) = false
drops_owned (delete flag) = false

-- whether it imports an object that has no content address
abbrev pub imports_without_address : Operation → Bool
imports_without_address (import_object has_address) = not has_address
imports_without_address plain = false
imports_without_address set_permanent = false
imports_without_address drop_permanent = false
imports_without_address replace_runtime = false
imports_without_address (set_user_root owner) = false
imports_without_address (drop_user_root owner) = false
imports_without_address (set_profile owner) = false
imports_without_address (rollback owner) = false
imports_without_address (switch owner) = false
imports_without_address (delete_generation owner) = false
imports_without_address (add_temp owner) = false
imports_without_address (end_session owner) = false
imports_without_address (collect flag) = false
imports_without_address (delete flag) = false

-- whether it sets or drops a permanent root
abbrev pub changes_permanent : Operation → Bool
changes_permanent set_permanent = true
changes_permanent drop_permanent = true
changes_permanent plain = false
changes_permanent (import_object has_address) = false
changes_permanent replace_runtime = false
changes_permanent (set_user_root owner) = false
changes_permanent (drop_user_root owner) = false
changes_permanent (set_profile owner) = false
changes_permanent (rollback owner) = false
changes_permanent (switch owner) = false
changes_permanent (delete_generation owner) = false
changes_permanent (add_temp owner) = false
changes_permanent (end_session owner) = false
changes_permanent (collect flag) = false
changes_permanent (delete flag) = false

-- whether it replaces the runtime roots
abbrev pub replaces_runtime : Operation → Bool
replaces_runtime replace_runtime = true
replaces_runtime plain = false
replaces_runtime (import_object has_address) = false
replaces_runtime set_permanent = false
replaces_runtime drop_permanent = false
replaces_runtime (set_user_root owner) = false
replaces_runtime (drop_user_root owner) = false
replaces_runtime (set_profile owner) = false
replaces_runtime (rollback owner) = false
replaces_runtime (switch owner) = false
replaces_runtime (delete_generation owner) = false
replaces_runtime (add_temp owner) = false
replaces_runtime (end_session owner) = false
replaces_runtime (collect flag) = false
replaces_runtime (delete flag) = false

-- whether it carries the flag to ignore liveness, and the flag is set
abbrev pub ignore_liveness : Operation → Bool
ignore_liveness (collect flag) = flag
ignore_liveness (delete flag) = flag
ignore_liveness plain = false
ignore_liveness (import_object has_address) = false
ignore_liveness set_permanent = false
ignore_liveness drop_permanent = false
ignore_liveness replace_runtime = false
ignore_liveness (set_user_root owner) = false
ignore_liveness (drop_user_root owner) = false
ignore_liveness (set_profile owner) = false
ignore_liveness (rollback owner) = false
ignore_liveness (switch owner) = false
ignore_liveness (delete_generation owner) = false
ignore_liveness (add_temp owner) = false
ignore_liveness (end_session owner) = false

-- whether it deletes paths by name
abbrev pub deletes : Operation → Bool
deletes (delete flag) = true
deletes plain = false
deletes (import_object has_address) = false
deletes set_permanent = false
deletes drop_permanent = false
deletes replace_runtime = false
deletes (set_user_root owner) = false
deletes (drop_user_root owner) = false
deletes (set_profile owner) = false
deletes (rollback owner) = false
deletes (switch owner) = false
deletes (delete_generation owner) = false
deletes (add_temp owner) = false
deletes (end_session owner) = false
deletes (collect flag) = false

-- the operation that a value of the code's type means
abbrev pub operation_of : Op → Operation
operation_of Plain = plain
operation_of (Import has_address) = import_object has_address
operation_of SetPermanent = set_permanent
operation_of DropPermanent = drop_permanent
operation_of ReplaceRuntime = replace_runtime
operation_of (SetUserRoot owner) = set_user_root owner.now
operation_of (DropUserRoot owner) = drop_user_root owner.now
operation_of (SetProfile owner) = set_profile owner.now
operation_of (Rollback owner) = rollback owner.now
operation_of (Switch owner) = switch owner.now
operation_of (DeleteGeneration owner) = delete_generation owner.now
operation_of (AddTemp owner) = add_temp owner.now
operation_of (EndSession owner) = end_session owner.now
operation_of (Collect flag) = collect flag
operation_of (Delete flag) = delete flag
