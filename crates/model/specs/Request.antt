-- What is asked of a store; and of each request what the rules ask, which paths it deletes by name, and its use of the
-- disk. Each of these names each request, so that nothing is true of one because it was forgotten.
use Rattle.std.specs.Prelude.{ℕ, Bool, List, [], Option, is_some}
use Rattle.paths.specs.ContentAddress.{ContentAddress}
use Rattle.model.specs.World.{Path, Pair}
use Rattle.policy.specs.Operation.{Operation, plain}
use Rattle.policy.specs.Operation as operations

-- an object that is passed with its path: the digest that its archive is said to have, the references, the deriver
-- and the content address if they are given, and the archive
pub record Imported : Type 0 where
  pub path : Path
  pub nar_hash : List ℕ
  pub refs : List Path
  pub deriver : Option Path
  pub ca : Option ContentAddress
  pub nar : List ℕ

pub data Request : Type 0 where
  -- a name, references, and the contents of a file
  add_text : List ℕ → List Path → List ℕ → Request
  -- a name, references, and an archive
  add_source : List ℕ → List Path → List ℕ → Request
  import_object : Imported → Request
  -- the record of an object, its archive, its listing
  info : Path → Request
  nar : Path → Request
  ls : Path → Request
  -- all paths, the live ones, the dead ones
  list : Request
  list_live : Request
  list_dead : Request
  -- all roots, and the roots that reach a path
  list_roots : Request
  list_roots_of : Path → Request
  -- a name
  set_permanent : List ℕ → Path → Request
  drop_permanent : List ℕ → Request
  -- an owner and a name
  set_user_root : List ℕ → List ℕ → Path → Request
  drop_user_root : List ℕ → List ℕ → Request
  -- an owner, the name of a profile, and a path or the number of a generation
  set_profile : List ℕ → List ℕ → Path → Request
  rollback : List ℕ → List ℕ → Request
  switch : List ℕ → List ℕ → ℕ → Request
  delete_generation : List ℕ → List ℕ → ℕ → Request
  -- labels and targets
  replace_runtime : List Pair → Request
  -- an owner, the number of a session, and a path that it is to keep
  add_temp : List ℕ → ℕ → Path → Request
  end_session : List ℕ → ℕ → Request
  -- whether liveness is to be ignored, and the bytes that are to be freed, if there is a limit
  collect : Bool → Option ℕ → Request
  -- paths, and whether liveness is to be ignored
  delete : List Path → Bool → Request
  report : Request

-- what the rules ask of a request
abbrev pub operation_of : Request → Operation
operation_of (import_object i) = operations.import_object (is_some i.ca)
operation_of (set_permanent name p) = operations.set_permanent
operation_of (drop_permanent name) = operations.drop_permanent
operation_of (set_user_root owner name p) = operations.set_user_root owner
operation_of (drop_user_root owner name) = operations.drop_user_root owner
operation_of (set_profile owner name p) = operations.set_profile owner
operation_of (rollback owner name) = operations.rollback owner
operation_of (switch owner name n) = operations.switch owner
operation_of (delete_generation owner name n) = operations.delete_generation owner
operation_of (replace_runtime pairs) = operations.replace_runtime
operation_of (add_temp owner session p) = operations.add_temp owner
operation_of (end_session owner session) = operations.end_session owner
operation_of (collect ignores limit) = operations.collect ignores
operation_of (delete named ignores) = operations.delete ignores
operation_of (add_text name refs contents) = plain
operation_of (add_source name refs b) = plain
operation_of (info p) = plain
operation_of (nar p) = plain
operation_of (ls p) = plain
operation_of list = plain
operation_of list_live = plain
operation_of list_dead = plain
operation_of list_roots = plain
operation_of (list_roots_of p) = plain
operation_of report = plain

-- the paths that a request deletes by name
abbrev pub named_in : Request → List Path
named_in (delete named ignores) = named
named_in (add_text name refs contents) = []
named_in (add_source name refs b) = []
named_in (import_object i) = []
named_in (info p) = []
named_in (nar p) = []
named_in (ls p) = []
named_in list = []
named_in list_live = []
named_in list_dead = []
named_in list_roots = []
named_in (list_roots_of p) = []
named_in (set_permanent name p) = []
named_in (drop_permanent name) = []
named_in (set_user_root owner name p) = []
named_in (drop_user_root owner name) = []
named_in (set_profile owner name p) = []
named_in (rollback owner name) = []
named_in (switch owner name n) = []
named_in (delete_generation owner name n) = []
named_in (replace_runtime pairs) = []
named_in (add_temp owner session p) = []
named_in (end_session owner session) = []
named_in (collect ignores limit) = []
named_in report = []

-- what a request needs of the disk: nothing, since it is answered from memory; an archive; a write that puts rows; or a
-- write that deletes alone
pub data DiskUse : Type 0 where
  no_use : DiskUse
  archive_use : DiskUse
  put_use : DiskUse
  delete_use : DiskUse

abbrev pub disk_use : Request → DiskUse
disk_use (add_text name refs contents) = put_use
disk_use (add_source name refs b) = put_use
disk_use (import_object i) = put_use
disk_use (info p) = no_use
disk_use (nar p) = archive_use
disk_use (ls p) = archive_use
disk_use list = no_use
disk_use list_live = no_use
disk_use list_dead = no_use
disk_use list_roots = no_use
disk_use (list_roots_of p) = no_use
disk_use (set_permanent name p) = put_use
disk_use (drop_permanent name) = delete_use
disk_use (set_user_root owner name p) = put_use
disk_use (drop_user_root owner name) = delete_use
disk_use (set_profile owner name p) = put_use
disk_use (rollback owner name) = put_use
disk_use (switch owner name n) = put_use
disk_use (delete_generation owner name n) = delete_use
disk_use (replace_runtime pairs) = put_use
disk_use (add_temp owner session p) = put_use
disk_use (end_session owner session) = delete_use
disk_use (collect ignores limit) = delete_use
disk_use (delete named ignores) = delete_use
disk_use report = no_use
