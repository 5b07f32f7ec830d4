-- The request that a subcommand makes to a store.
use Rattle.std.specs.Prelude.{◌≡◌, ⊤, ℕ, Bool, not, ◌||◌, is_ok, if◌then◌else◌, List, map, Option, Some}
use Rattle.std.specs.Prelude.{None, Result, Ok, Err}
use Rattle.std.specs.List.{list_all}
use Rattle.std.specs.Option.{option_map_or}
use Rattle.clap.specs.Walk.{Text}
use Rattle.paths.specs.StorePath.{base_of}
use Rattle.model.specs.World.{Path, World}
use Rattle.policy.specs.Settings.{Settings}
use Rattle.policy.specs.Caller.{Caller}
use Rattle.model.specs.Disk.{reads_disk, touches_disk}
use Rattle.model.specs.Request as request
use Rattle.model.specs.Request.{Request}
use Rattle.model.specs.Reply.{Reply}
use Rattle.model.specs.Step.{Step}
use Rattle.model.specs.declared.refusal.Refusal.{Refusal}
use Rattle.model.specs.declared.refusal.Refusal.TheVariants.{BadStorePath}
use Rattle.tool_words.specs.Asked as asked
use Rattle.tool_words.specs.Asked.{Asked, OnProfile, OnSession, add_source, add_text, cat_nar, delete, gc}
use Rattle.tool_words.specs.Asked.{import_object, info, list_dead, list_live, list_paths, optional_text, profile}
use Rattle.tool_words.specs.Asked.{report, root, roots, runtime, temp, unroot_permanent, unroot_user, why, serve}
use Rattle.tool_words.specs.declared.line.ServeArguments.{ServeArguments}
use Rattle.tool_words.specs.declared.line.ServeArguments.TheVariants.{Streams, Port}
use Rattle.tool_words.specs.declared.line.Unrooted.{Unrooted}
use Rattle.tool_words.specs.declared.line.Unrooted.TheVariants as unrooted
use Rattle.tool_words.specs.declared.line.NamedRootKind.{NamedRootKind}
use Rattle.tool_words.specs.declared.line.NamedRootKind.TheVariants.{Permanent, User}
use Rattle.store_types.specs.declared.requests.Request.{Request as Made}
use Rattle.store_types.specs.View.{request_view}
use Rattle.model.specs.declared.failures.Failure.TheVariants.{Memory, Input}
use Rattle.tool_pure.specs.declared.stops.Stop.{Stop}
use Rattle.tool_pure.specs.declared.stops.Stop.TheVariants.{Refused, Failed}
use Rattle.tool.specs.Bodies.{Imports, Replaces}
use Rattle.report.specs.Outputs.{Console, Stream}
use Rattle.streams.specs.Reads.{ConsumesAtMost}
use Rattle.tool_pure.specs.Archive.{max_prefix}
use Rattle.tool_pure.specs.Object.{is_path_text, most_of_contents, named_fault}
use Rattle.tool_pure.specs.Stream.{InputFails}

-- a request on a path, if the text is a path
abbrev pub on_path : List ℕ → Text → (Path → Request) → Result Request Refusal
on_path dir text ask = if is_path_text dir text then Ok (ask (base_of dir text)) else Err BadStorePath

-- a request on paths, if all texts are paths
abbrev pub on_paths : List ℕ → List Text → (List Path → Request) → Result Request Refusal
on_paths dir texts ask =
    if list_all (is_path_text dir) texts then Ok (ask (map (base_of dir) texts)) else Err BadStorePath

-- a request to add an object, by its name, its references and its bytes
abbrev pub Adding : Type 0
Adding = List ℕ → List Path → List ℕ → Request

-- a request on a name, references and the bytes of the input, if the texts are a name and references
abbrev pub on_object : List ℕ → Text × List Text → Adding → Result (List ℕ → Request) Refusal
on_object dir o ask = option_map_or Err (named_fault dir o.0 o.1) (Ok (ask o.0 (map (base_of dir) o.1)))

-- the owner of a root: the caller, if no owner is named
abbrev pub owner_of : Caller → Option Text → List ℕ
owner_of c None = c.name
owner_of c (Some owner) = owner

-- the request that sets a root: a permanent one, or that of the caller
abbrev pub set_root : NamedRootKind → Caller → Text → Path → Request
set_root Permanent c name p = request.set_permanent name p
set_root User c name p = request.set_user_root c.name name p

-- the request that drops a root: a permanent one, or that of a user
abbrev pub drop_root : Unrooted → Caller → Text → Request
drop_root unrooted.Permanent c name = request.drop_permanent name
drop_root (unrooted.User owner) c name = request.drop_user_root (owner_of c (optional_text owner)) name

-- the request about a profile: a path becomes its current generation, if the text is one; the profile is rolled back;
-- or a generation of the profile becomes current, or is deleted
abbrev pub change_profile : List ℕ → List ℕ → Text → OnProfile → Result Request Refusal
change_profile dir owner name (asked.set text) = on_path dir text (request.set_profile owner name)
change_profile dir owner name asked.rollback = Ok (request.rollback owner name)
change_profile dir owner name (asked.switch n) = Ok (request.switch owner name n)
change_profile dir owner name (asked.delete_generation n) = Ok (request.delete_generation owner name n)

-- the request about a session's temporary roots: a path is added, if the text is one; or all of them are deleted
abbrev pub change_session : List ℕ → List ℕ → ℕ → OnSession → Result Request Refusal
change_session dir owner n (asked.add_temp text) = on_path dir text (request.add_temp owner n)
change_session dir owner n asked.end_session = Ok (request.end_session owner n)

-- what is asked of a store, by the store directory and the caller
pub data Ask : Type 0 where
  -- a request, or why the arguments are refused
  at_once : (List ℕ → Caller → Result Request Refusal) → Ask
  -- a request with the bytes of the input, of which no more than this number are read, or why the arguments are refused
  with_input : ℕ → (List ℕ → Caller → Result (List ℕ → Request) Refusal) → Ask
  -- the request of the body on the input: an import, or the runtime roots
  import_body : Ask
  runtime_body : Ask

-- a request with these bytes, where the arguments aren't refused
abbrev pub with_bytes : List ℕ → Result (List ℕ → Request) Refusal → Result Request Refusal
with_bytes bytes (Ok ask) = Ok (ask bytes)
with_bytes bytes (Err refusal) = Err refusal

-- what is asked by the bytes of the input: this request, or this refusal
abbrev pub Demands : Ask → List ℕ → Caller → List ℕ → Result Request Refusal → Type 0
Demands (at_once ask) dir c bytes wanted = ask dir c ≡ wanted
Demands (with_input most ask) dir c bytes wanted = with_bytes bytes (ask dir c) ≡ wanted
Demands import_body dir c bytes wanted = Imports dir bytes wanted
Demands runtime_body dir c bytes wanted = Replaces dir bytes wanted

-- The input may have failed for this subcommand. The input isn't read if none of it is needed, or if the arguments are
-- refused; and if it is read to a bound, it failed after fewer bytes.
abbrev pub LosesInput : Ask → List ℕ → Caller → Stream → Type 0
LosesInput (at_once ask) dir c input = ⊥
LosesInput (with_input most ask) dir c input = InputFails (is_ok (ask dir c)) most input
LosesInput import_body dir c input = ⊤
LosesInput runtime_body dir c input = ⊤

-- the request of a subcommand to a store; the other subcommands make none
abbrev pub asks : Asked → Option Ask
asks list_paths = Some (at_once (λ dir c. Ok request.list))
asks list_live = Some (at_once (λ dir c. Ok request.list_live))
asks list_dead = Some (at_once (λ dir c. Ok request.list_dead))
asks roots = Some (at_once (λ dir c. Ok request.list_roots))
asks report = Some (at_once (λ dir c. Ok request.report))
asks (gc ignores limit) = Some (at_once (λ dir c. Ok (request.collect ignores limit)))
asks (delete ignores texts) = Some (at_once (λ dir c. on_paths dir texts (λ named. request.delete named ignores)))
asks (info text) = Some (at_once (λ dir c. on_path dir text request.info))
asks (why text) = Some (at_once (λ dir c. on_path dir text request.list_roots_of))
asks (cat_nar text) = Some (at_once (λ dir c. on_path dir text request.nar))
asks (add_source o) =
    Some (with_input max_prefix (λ dir c. on_object dir o (λ name refs bytes. request.add_source name refs bytes)))
asks (add_text o) =
    Some (with_input most_of_contents (λ dir c. on_object dir o (λ name refs bytes. request.add_text name refs bytes)))
asks (root kind name text) = Some (at_once (λ dir c. on_path dir text (set_root kind c name)))
asks (unroot_permanent name) = Some (at_once (λ dir c. Ok (request.drop_permanent name)))
asks (unroot_user owner name) = Some (at_once (λ dir c. Ok (request.drop_user_root (owner_of c owner) name)))
asks (profile owner name action) = Some (at_once (λ dir c. change_profile dir (owner_of c owner) name action))
asks (temp owner n action) = Some (at_once (λ dir c. change_session dir (owner_of c owner) n action))
asks import_object = Some import_body
asks runtime = Some runtime_body
asks _ = None

-- The greatest number of bytes that `serve` reads of its input, if there is one: it reads what its connection sends,
-- and on a port the connections aren't the input.
abbrev pub most_served : ServeArguments → Option ℕ
most_served Streams = None
most_served (Port number n) = Some 0

-- The greatest number of bytes that a subcommand reads of its input, if there is one: as many as decide about an
-- archive or the contents of a text, or all of a body. Every other subcommand reads nothing.
abbrev pub most_read : Asked → Option ℕ
most_read asked.ls = Some max_prefix
most_read (asked.source_path o) = Some max_prefix
most_read (add_source o) = Some max_prefix
most_read (asked.text_path o) = Some most_of_contents
most_read (add_text o) = Some most_of_contents
most_read import_object = None
most_read runtime = None
most_read (serve a) = most_served a
most_read _ = Some 0

-- no more of an input was read than this number of bytes, if there is such a number
abbrev pub ReadsWithin : Option ℕ → Option (List ℕ) → Option (List ℕ) → Type 0
ReadsWithin None old new = ⊤
ReadsWithin (Some most) old new = ConsumesAtMost most old new

-- whether a request only reads: it is answered from the disk, or doesn't touch it
abbrev pub only_reads : Request → Bool
only_reads q = reads_disk q || not (touches_disk q)

-- An answer was given, and no more of the input was read than `most` bytes, if there is such a number.
pub record AnswersReading (most : Option ℕ) (answers : Console → Type 0) (console : Console) : Type 0 where
  pub answer : answers console
  pub reads : ReadsWithin most console.input.old console.input.new

-- what a subcommand asks of a store, if it asks something, is answered
abbrev pub AnswersAsked : Asked → (Ask → Console → Type 0) → Console → Type 0
AnswersAsked task answers console = (ask : Ask) → asks task ≡ Some ask → answers ask console

-- ---- what a program makes of the words and the input

-- each reply and each step of the first request is one of the second too
abbrev pub StepsAs : Request → Request → Type 0
StepsAs made wanted =
    (s : Settings) (w : World) (c : Caller) (reply : Reply) (next : World) → Step s w c made reply next
    → Step s w c wanted reply next

-- exactly this request, or this refusal, is what is asked
abbrev pub Gives : Result Request Refusal → Result Request Refusal → Type 0
Gives said wanted = said ≡ wanted

-- A request was made of what is asked, or its refusal is reported; memory may have run out, or the input have failed
-- where that may be. Of contents that are too long a prefix is enough, for which they are refused.
abbrev pub IsAsked : Type 0 → (Result Request Refusal → Type 0) → Result Made Stop → Type 0
IsAsked fails asks (Ok q) = (r : Request) × asks (Ok r) × StepsAs (request_view q) r
IsAsked fails asks (Err (Refused r)) = asks (Err r)
IsAsked fails asks (Err (Failed Memory)) = ⊤
IsAsked fails asks (Err (Failed Input)) = fails
IsAsked fails asks (Err (Failed _)) = ⊥

-- what is asked by the bytes of the input: by some bytes, if the stream's contents are unknown
abbrev pub IsAskedOver : Type 0 → (List ℕ → Result Request Refusal → Type 0) → Option (List ℕ) → Result Made Stop
    → Type 0
IsAskedOver fails ask None made = (bytes : List ℕ) × IsAsked fails (ask bytes) made
IsAskedOver fails ask (Some bytes) made = IsAsked fails (ask bytes) made

-- what a subcommand asks of a store, by its input
abbrev pub IsAskedBy : Ask → List ℕ → Caller → Stream → Result Made Stop → Type 0
IsAskedBy ask dir c input made = IsAskedOver (LosesInput ask dir c input) (Demands ask dir c) input.old made

-- the request that adds an object of the arguments and the input, which is read to a bound, or why there is none
pub record AsksObject (most : ℕ) (dir : List ℕ) (o : Text × List Text) (ask : Adding) (input : Stream)
    (made : Result Made Stop) : Type 0 where
  pub asked : IsAskedOver (InputFails (is_ok (on_object dir o ask)) most input)
      (λ bytes. Gives (with_bytes bytes (on_object dir o ask))) input.old made
  pub reads : ConsumesAtMost most input.old input.new
