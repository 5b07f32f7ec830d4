-- What is made of arguments that are left out.
use Rattle.std.proofs.Common.{◌≡◌, ◌≢◌, ◌∙◌, ℕ, true, false, Option, Some, None, Ok, List, [], codes, refl}
use Rattle.std.proofs.Common.{ap}
use Rattle.std.specs.Prelude.{option_and_then, option_map, slice_get, unwrap_or, if◌then◌else◌}
use Rattle.std.specs.Option.{option_map_or}
use Rattle.std.specs.Str.{bytes_eq}
use Rattle.std.proofs.lemmas.Slice.Eq.{bytes_eq-Decides}
use Rattle.std.proofs.lemmas.Bool.{false_from_ne_true}
use Rattle.clap.specs.Walk.{Row, Text, first_of, row_text}
use Rattle.tool_words.specs.declared.line.NamedRootKind.TheVariants.{Permanent, User}
use Rattle.tool_words.specs.Values.{required, all_values, is_given, number, number_below}
use Rattle.tool_words.specs.Actions.{on_profile, on_session, limit, served, unrooted}
use Rattle.tool_words.specs.Asked.{Asked, root, profile, temp, gc, delete, serve}
use Rattle.tool_words.specs.Line.{Line, with_value}
use Rattle.tool_words.specs.Defaults.{IsLeftOut, IsNotGiven, OptionsAreNone, CollectsAll, HeedsLiveness, ServesStreams}
use Rattle.tool_words.specs.Defaults.{ServesOne, RootsAreUsers, OwnersAreNone, ReferencesAreNone}
use Rattle.paths.specs.Decimal.{session_number}

module _ (id : Text) (rs : List Row) where
  no_first : IsLeftOut id rs → first_of id rs ≡ None
  no_first out = ap (option_and_then (λ (r : Row). slice_get r.values 0)) out

  no_number : (k : ℕ) → IsLeftOut id rs → number k id rs ≡ None
  no_number k out = ap (λ o. option_and_then (number_below k) (option_and_then row_text o)) out

  no_values : IsLeftOut id rs → all_values id rs ≡ []
  no_values out = ap (λ o. unwrap_or (option_map (λ (r : Row). r.values) o) []) out

  not_given : IsNotGiven id rs → is_given id rs ≡ false
  not_given other = by (first_of id rs) other
    where
      by : (o : Option Text) → o ≢ Some (codes "true") → option_map_or (λ t. bytes_eq t (codes "true")) o false ≡ false
      by None unlike = refl
      by (Some t) unlike =
          false_from_ne_true (bytes_eq t (codes "true"))
          (λ e. unlike (ap Some ((bytes_eq-Decides t (codes "true")).0 e)))

-- a command line that asks for this
abbrev line : Option Text → Option Text → Option Text → Option Text → Asked → Line
line db config user group asked = record { db = db; config = config; user = user; group = group; asked = asked }

pub options : OptionsAreNone
options rs name of asked db config user group found =
    let value = λ (id : Text). first_of id rs in
    ap (with_value (line (value (codes "db")) (value (codes "config")) (value (codes "user")) (value (codes "group"))))
    found
    ∙ ap (λ o. Ok (line o (value (codes "config")) (value (codes "user")) (value (codes "group")) asked))
    (no_first (codes "db") rs db)
    ∙ ap (λ o. Ok (line None o (value (codes "user")) (value (codes "group")) asked))
    (no_first (codes "config") rs config)
    ∙ ap (λ o. Ok (line None None o (value (codes "group")) asked)) (no_first (codes "user") rs user)
    ∙ ap (λ o. Ok (line None None None o asked)) (no_first (codes "group") rs group)

pub collects_all : CollectsAll
collects_all rs out =
    ap (λ o. with_value (gc (is_given (codes "ignore-liveness") rs)) (limit o)) (no_first (codes "max-freed") rs out)

pub heeds : HeedsLiveness
heeds rs other =
    let left_out = not_given (codes "ignore-liveness") rs other in (
      ap (λ b. with_value (gc b) (limit (first_of (codes "max-freed") rs))) left_out,
      ap (λ b. Ok (delete b (all_values (codes "path") rs))) left_out,
    )

pub streams : ServesStreams
streams rs port connections =
    ap (λ p. with_value serve (served p (number 32 (codes "connections") rs))) (no_number (codes "port") rs 16 port)
    ∙ ap (λ c. with_value serve (served None c)) (no_number (codes "connections") rs 32 connections)

pub one : ServesOne
one rs port given connections =
    ap (λ p. with_value serve (served p (number 32 (codes "connections") rs))) given
    ∙ ap (λ c. with_value serve (served (Some port) c)) (no_number (codes "connections") rs 32 connections)

pub roots : RootsAreUsers
roots rs other =
    let left_out = not_given (codes "permanent") rs other in (
      ap (λ b. Ok (root (if b then Permanent else User) (required (codes "name") rs) (required (codes "path") rs)))
          left_out,
      ap (λ b. unrooted b (first_of (codes "owner") rs) (required (codes "name") rs)) left_out,
    )

pub owners : OwnersAreNone
owners rs out =
    let none = no_first (codes "owner") rs out in (
      λ other. ap (λ b. unrooted b (first_of (codes "owner") rs) (required (codes "name") rs))
          (not_given (codes "permanent") rs other)
          ∙ ap (λ o. unrooted false o (required (codes "name") rs)) none,
      ap (λ o. with_value (profile o (required (codes "name") rs))
          (on_profile (required (codes "action") rs) (first_of (codes "value") rs))) none,
      ap (λ o. with_value (temp o (session_number (required (codes "session") rs)))
          (on_session (required (codes "action") rs) (first_of (codes "path") rs))) none,
    )

pub references : ReferencesAreNone
references rs out = ap (λ l. (required (codes "name") rs, l)) (no_values (codes "reference") rs out)
