-- What the values of a subcommand stand for, and which of them don't go together.
use Rattle.std.specs.Prelude.{ℕ, Bool, List, if◌then◌else◌, is_some, codes, Option, Some, None, unwrap_or, Result, Ok}
use Rattle.std.specs.Prelude.{Err}
use Rattle.std.specs.Option.{option_map_or}
use Rattle.std.specs.Str.{bytes_eq}
use Rattle.clap.specs.Walk.{Row, Text}
use Rattle.paths.specs.Decimal.{decimal_of, generation_number}
use Rattle.tool_words.specs.declared.error.Acting.{Acting}
use Rattle.tool_words.specs.declared.error.Acting.TheVariants.{Profile, Temp}
use Rattle.tool_words.specs.declared.error.UsageFault.{UsageFault}
use Rattle.tool_words.specs.declared.error.UsageFault.TheVariants.{UnknownAction, MissingValue, ExtraValue}
use Rattle.tool_words.specs.declared.error.UsageFault.TheVariants.{OwnerOfPermanent, BadLimit, ConnectionsWithoutPort}
use Rattle.tool_words.specs.declared.line.NamedRootKind.{NamedRootKind}
use Rattle.tool_words.specs.declared.line.NamedRootKind.TheVariants.{Permanent, User}
use Rattle.tool_words.specs.declared.line.ServeArguments.{ServeArguments}
use Rattle.tool_words.specs.declared.line.ServeArguments.TheVariants.{Streams, Port}
use Rattle.tool_words.specs.Asked.{Asked, OnProfile, OnSession, set, rollback, switch, delete_generation, add_temp}
use Rattle.tool_words.specs.Asked.{end_session, unroot_permanent, unroot_user}
use Rattle.tool_words.specs.Values.{is_given}

-- an action of a subcommand that wants a value
abbrev pub requiring : {A : Type 0} → Acting → (Text → A) → Option Text → Result A UsageFault
requiring of act (Some text) = Ok (act text)
requiring of act None = Err (MissingValue of)

-- an action of a subcommand that takes none
abbrev pub without : {A : Type 0} → Acting → A → Option Text → Result A UsageFault
without of act (Some text) = Err (ExtraValue of)
without of act None = Ok act

-- an ACTION of `profile` with its VALUE
abbrev pub on_profile : Text → Option Text → Result OnProfile UsageFault
on_profile action value =
    if bytes_eq action (codes "set") then requiring Profile set value
    else if bytes_eq action (codes "rollback") then without Profile rollback value
    else if bytes_eq action (codes "switch") then requiring Profile (λ n. switch (generation_number n)) value
    else if bytes_eq action (codes "delete") then requiring Profile (λ n. delete_generation (generation_number n)) value
    else Err (UnknownAction Profile)

-- an ACTION of `temp` with its PATH
abbrev pub on_session : Text → Option Text → Result OnSession UsageFault
on_session action path =
    if bytes_eq action (codes "add") then requiring Temp add_temp path
    else if bytes_eq action (codes "end") then without Temp end_session path
    else Err (UnknownAction Temp)

-- the kind of a root that is set
abbrev pub root_kind : List Row → NamedRootKind
root_kind rs = if is_given (codes "permanent") rs then Permanent else User

-- the root that is dropped
abbrev pub unrooted : Bool → Option Text → Text → Result Asked UsageFault
unrooted permanent owner name =
    if permanent then (if is_some owner then Err OwnerOfPermanent else Ok (unroot_permanent name))
    else Ok (unroot_user owner name)

-- after how many bytes a collection may stop
abbrev pub limit : Option Text → Result (Option ℕ) UsageFault
limit None = Ok None
limit (Some text) = option_map_or (λ n. Ok (Some n)) (decimal_of text) (Err BadLimit)

-- where requests come from: one connection, where it isn't said how many
abbrev pub served : Option ℕ → Option ℕ → Result ServeArguments UsageFault
served None None = Ok Streams
served None (Some connections) = Err ConnectionsWithoutPort
served (Some port) connections = Ok (Port port (unwrap_or connections 1))
