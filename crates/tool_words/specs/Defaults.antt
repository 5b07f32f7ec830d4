-- What a command line means where an argument is left out. Each is a clause of a law of `src/laws.rt`.
use Rattle.std.specs.Prelude.{◌≡◌, ◌≢◌, ℕ, List, [], codes, find, false, Some, None, Ok}
use Rattle.std.specs.Str.{bytes_eq}
use Rattle.clap.specs.Walk.{Row, Text, first_of}
use Rattle.tool_words.specs.declared.line.NamedRootKind.TheVariants.{User}
use Rattle.tool_words.specs.declared.line.ServeArguments.TheVariants.{Streams, Port}
use Rattle.tool_words.specs.declared.verb.Verb.{Verb}
use Rattle.tool_words.specs.declared.verb.Verb.TheVariants as verb
use Rattle.tool_words.specs.Values.{required, all_values, is_given, number}
use Rattle.tool_words.specs.Actions.{on_profile, on_session, limit}
use Rattle.tool_words.specs.Asked.{Asked, root, unroot_user, profile, temp, gc, delete, serve}
use Rattle.tool_words.specs.Line.{with_value, object, asked_of, asked_by, line_from}
use Rattle.paths.specs.Decimal.{session_number}

-- an argument is left out: `clap` finds no row of it
abbrev pub IsLeftOut : Text → List Row → Type 0
IsLeftOut id rs = find (λ r. bytes_eq r.id id) rs ≡ None

-- a flag isn't given: its row, if there is one, doesn't say `true`
abbrev pub IsNotGiven : Text → List Row → Type 0
IsNotGiven id rs = first_of id rs ≢ Some (codes "true")

-- a command line without options names no file, no configuration and no caller
abbrev pub OptionsAreNone : Type 0
OptionsAreNone = (rs : List Row) (name : Text) (of : List Row) (asked : Asked)
    → IsLeftOut (codes "db") rs → IsLeftOut (codes "config") rs
    → IsLeftOut (codes "user") rs → IsLeftOut (codes "group") rs
    → asked_by name of ≡ Ok asked
    → line_from rs (Some (name, of))
    ≡ Ok (record { db = None; config = None; user = None; group = None; asked = asked })

-- a collection without `--max-freed` has no limit
abbrev pub CollectsAll : Type 0
CollectsAll = (rs : List Row) → IsLeftOut (codes "max-freed") rs
    → asked_of verb.Gc rs ≡ Ok (gc (is_given (codes "ignore-liveness") rs) None)

-- without `--ignore-liveness` neither a collection nor a deletion ignores it
abbrev pub HeedsLiveness : Type 0
HeedsLiveness = (rs : List Row) → IsNotGiven (codes "ignore-liveness") rs
    → (asked_of verb.Gc rs ≡ with_value (gc false) (limit (first_of (codes "max-freed") rs)))
    × (asked_of verb.Delete rs ≡ Ok (delete false (all_values (codes "path") rs)))

-- without `--port` and `--connections` requests come from the standard streams
abbrev pub ServesStreams : Type 0
ServesStreams = (rs : List Row) → IsLeftOut (codes "port") rs → IsLeftOut (codes "connections") rs
    → asked_of verb.Serve rs ≡ Ok (serve Streams)

-- with `--port` alone one connection is served
abbrev pub ServesOne : Type 0
ServesOne = (rs : List Row) (port : ℕ) → number 16 (codes "port") rs ≡ Some port → IsLeftOut (codes "connections") rs
    → asked_of verb.Serve rs ≡ Ok (serve (Port port 1))

-- without `--permanent` a root that is set or dropped is a user's
abbrev pub RootsAreUsers : Type 0
RootsAreUsers = (rs : List Row) → IsNotGiven (codes "permanent") rs
    → (asked_of verb.Root rs ≡ Ok (root User (required (codes "name") rs) (required (codes "path") rs)))
    × (asked_of verb.Unroot rs ≡ Ok (unroot_user (first_of (codes "owner") rs) (required (codes "name") rs)))

-- without `--owner` no owner is named, of a root that is dropped, of a profile or of a session
abbrev pub OwnersAreNone : Type 0
OwnersAreNone = (rs : List Row) → IsLeftOut (codes "owner") rs
    → (IsNotGiven (codes "permanent") rs → asked_of verb.Unroot rs ≡ Ok (unroot_user None (required (codes "name") rs)))
    × (asked_of verb.Profile rs
    ≡ with_value (profile None (required (codes "name") rs))
    (on_profile (required (codes "action") rs) (first_of (codes "value") rs)))
    × (asked_of verb.Temp rs
    ≡ with_value (temp None (session_number (required (codes "session") rs)))
    (on_session (required (codes "action") rs) (first_of (codes "path") rs)))

-- an object that is named without references has none
abbrev pub ReferencesAreNone : Type 0
ReferencesAreNone = (rs : List Row) → IsLeftOut (codes "reference") rs → object rs ≡ (required (codes "name") rs, [])
