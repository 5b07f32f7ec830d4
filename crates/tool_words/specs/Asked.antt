-- A subcommand with its values: names, paths and labels as texts.
use Rattle.std.specs.Prelude.{ℕ, Bool, List, Option, option_map}
use Rattle.std.specs.Borrow.{Bor}
use Rattle.clap.specs.Walk.{Text, texts}
use Rattle.tool_words.specs.declared.line.ObjectArguments.{ObjectArguments}
use Rattle.tool_words.specs.declared.line.NamedRootKind.{NamedRootKind}
use Rattle.tool_words.specs.declared.line.Unrooted.{Unrooted}
use Rattle.tool_words.specs.declared.line.Unrooted.TheVariants as unrooted
use Rattle.tool_words.specs.declared.actions.ProfileAction.{ProfileAction}
use Rattle.tool_words.specs.declared.actions.ProfileAction.TheVariants as profile_action
use Rattle.tool_words.specs.declared.actions.TempAction.{TempAction}
use Rattle.tool_words.specs.declared.actions.TempAction.TheVariants as temp_action
use Rattle.tool_words.specs.declared.line.ServeArguments.{ServeArguments}
use Rattle.tool_words.specs.declared.line.Task.{Task}
use Rattle.tool_words.specs.declared.line.Task.TheVariants as task

-- what happens to a profile
pub data OnProfile : Type 0 where
  set : Text → OnProfile
  rollback : OnProfile
  -- the number of a generation
  switch : ℕ → OnProfile
  delete_generation : ℕ → OnProfile

-- what happens to a session's temporary roots
pub data OnSession : Type 0 where
  add_temp : Text → OnSession
  end_session : OnSession

-- a subcommand with its values
pub data Asked : Type 0 where
  who : Asked
  ls : Asked
  -- a name and references
  text_path : Text × List Text → Asked
  source_path : Text × List Text → Asked
  add_text : Text × List Text → Asked
  add_source : Text × List Text → Asked
  import_object : Asked
  runtime : Asked
  -- a path
  info : Text → Asked
  cat_nar : Text → Asked
  why : Text → Asked
  list_paths : Asked
  roots : Asked
  list_live : Asked
  list_dead : Asked
  report : Asked
  -- a kind, a name and a path
  root : NamedRootKind → Text → Text → Asked
  unroot_permanent : Text → Asked
  -- an owner, if one is named, and a name
  unroot_user : Option Text → Text → Asked
  -- an owner, if one is named, and the name of a profile
  profile : Option Text → Text → OnProfile → Asked
  -- an owner, if one is named, and the number of a session
  temp : Option Text → ℕ → OnSession → Asked
  -- whether liveness is to be ignored, and after how many bytes it may stop
  gc : Bool → Option ℕ → Asked
  -- whether liveness is to be ignored, and paths
  delete : Bool → List Text → Asked
  serve : ServeArguments → Asked

-- a text that is optional
abbrev pub optional_text : Option (Bor Text) → Option Text
optional_text = option_map (λ s. s.now)

-- the arguments of the code that name a store object, seen as their texts
abbrev pub object_view : ObjectArguments → Text × List Text
object_view o = (o.name.now, texts o.references.items)

-- a root of the code that is dropped
abbrev pub unroot_view : Unrooted → Text → Asked
unroot_view unrooted.Permanent name = unroot_permanent name
unroot_view (unrooted.User owner) name = unroot_user (optional_text owner) name

abbrev pub on_profile_view : ProfileAction → OnProfile
on_profile_view (profile_action.Set path) = set path.now
on_profile_view profile_action.Rollback = rollback
on_profile_view (profile_action.Switch n) = switch n
on_profile_view (profile_action.Delete n) = delete_generation n

abbrev pub on_session_view : TempAction → OnSession
on_session_view (temp_action.Add path) = add_temp path.now
on_session_view temp_action.End = end_session

-- a subcommand of the code, seen as its texts
abbrev pub asked_view : Task → Asked
asked_view task.Who = who
asked_view task.Ls = ls
asked_view (task.TextPath o) = text_path (object_view o)
asked_view (task.SourcePath o) = source_path (object_view o)
asked_view (task.AddText o) = add_text (object_view o)
asked_view (task.AddSource o) = add_source (object_view o)
asked_view task.Import = import_object
asked_view task.Runtime = runtime
asked_view (task.Info path) = info path.now
asked_view (task.CatNar path) = cat_nar path.now
asked_view (task.Why path) = why path.now
asked_view task.List = list_paths
asked_view task.Roots = roots
asked_view task.Live = list_live
asked_view task.Dead = list_dead
asked_view task.Report = report
asked_view (task.Root r) = root r.kind r.name.now r.path.now
asked_view (task.Unroot r) = unroot_view r.root r.name.now
asked_view (task.Profile p) = profile (optional_text p.owner) p.name.now (on_profile_view p.action)
asked_view (task.Temp t) = temp (optional_text t.owner) t.session (on_session_view t.action)
asked_view (task.Gc g) = gc g.ignore_liveness g.max_freed
asked_view (task.Delete d) = delete d.ignore_liveness (texts d.paths.items)
asked_view (task.Serve s) = serve s
