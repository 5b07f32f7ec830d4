-- The subcommands and the whole command line as `clap` gets them.
use Rattle.std.specs.Prelude.{◌≡◌, codes, fold, false, true}
use Rattle.clap.specs.Simple.{App, app_of, new_app, on_top, with_rule, with_subcommand}
use Rattle.clap.specs.declared.builder.command.Command.{Command}
use Rattle.clap.specs.declared.builder.command.Command.TheViews.{out-Command}
use Rattle.tool_words.specs.declared.verb.Verb.{Verb}
use Rattle.tool_words.specs.declared.verb.Verb.TheVariants.{Who, TextPath, SourcePath, Ls, AddText, AddSource, Import}
use Rattle.tool_words.specs.declared.verb.Verb.TheVariants.{Runtime, Info, CatNar, Why, List as ListPaths, Roots, Live}
use Rattle.tool_words.specs.declared.verb.Verb.TheVariants.{Dead, Report, Root, Unroot, Profile, Temp, Gc, Delete}
use Rattle.tool_words.specs.declared.verb.Verb.TheVariants.{Serve}
use Rattle.tool_words.specs.Verbs.{verb_name, verbs}
use Rattle.tool_words.specs.Arguments.{option_named, number_option, flag_named, required_argument, optional_argument}
use Rattle.tool_words.specs.Arguments.{references_argument, paths_argument}

-- a command as `clap` gets it, of whose arguments none is for the subcommands too
pub record IsCommand (command : Command) (is : App) : Type 0 where
  pub app : app_of command ≡ is
  pub local : (out-Command command).has_globals ≡ false

-- a subcommand without arguments
abbrev pub plain_app : Verb → App
plain_app verb = new_app (verb_name verb)

-- `NAME [REF]..`
abbrev pub object_app : Verb → App
object_app verb = with_rule (with_rule (plain_app verb) (required_argument (codes "name"))) references_argument

-- `PATH`
abbrev pub path_app : Verb → App
path_app verb = with_rule (plain_app verb) (required_argument (codes "path"))

-- `root [--permanent] NAME PATH`
abbrev pub root_app : App
root_app = with_rule (with_rule (with_rule (plain_app Root)
    (flag_named (codes "permanent"))) (required_argument (codes "name"))) (required_argument (codes "path"))

-- `unroot [--permanent] [--owner USER] NAME`
abbrev pub unroot_app : App
unroot_app = with_rule (with_rule (with_rule (plain_app Unroot)
    (flag_named (codes "permanent"))) (option_named (codes "owner"))) (required_argument (codes "name"))

-- `profile [--owner USER] ACTION NAME [VALUE]`
abbrev pub profile_app : App
profile_app = with_rule (with_rule (with_rule (with_rule (plain_app Profile)
    (option_named (codes "owner"))) (required_argument (codes "action"))) (required_argument (codes "name")))
    (optional_argument (codes "value"))

-- `temp [--owner USER] ACTION SESSION [PATH]`
abbrev pub temp_app : App
temp_app = with_rule (with_rule (with_rule (with_rule (plain_app Temp)
    (option_named (codes "owner"))) (required_argument (codes "action"))) (required_argument (codes "session")))
    (optional_argument (codes "path"))

-- `gc [--ignore-liveness] [--max-freed N]`
abbrev pub gc_app : App
gc_app = with_rule (with_rule (plain_app Gc) (flag_named (codes "ignore-liveness"))) (option_named (codes "max-freed"))

-- `delete [--ignore-liveness] PATH..`
abbrev pub delete_app : App
delete_app = with_rule (with_rule (plain_app Delete) (flag_named (codes "ignore-liveness"))) paths_argument

-- `serve [--port N] [--connections K]`
abbrev pub serve_app : App
serve_app =
    with_rule (with_rule (plain_app Serve) (number_option (codes "port") 65535))
    (number_option (codes "connections") 1000000)

-- a command that has a version, so `clap` adds `-V` and `--version`
abbrev pub with_version : App → App
with_version = on_top (λ s. record s { has_version = true })

-- `nixkeep`, and the options that come before the subcommand: `[--db FILE] [--config FILE] [--user USER] [--group
-- GROUP]`
abbrev pub options_app : App
options_app = with_rule (with_rule (with_rule (with_rule (with_version (new_app (codes "nixkeep")))
    (option_named (codes "db"))) (option_named (codes "config"))) (option_named (codes "user")))
    (option_named (codes "group"))

-- a command line with one more subcommand
abbrev pub adding : App → App → App
adding app subcommand = with_subcommand app subcommand.top

-- a subcommand with its arguments
abbrev pub app_for : Verb → App
app_for Who = plain_app Who
app_for Ls = plain_app Ls
app_for Import = plain_app Import
app_for Runtime = plain_app Runtime
app_for ListPaths = plain_app ListPaths
app_for Roots = plain_app Roots
app_for Live = plain_app Live
app_for Dead = plain_app Dead
app_for Report = plain_app Report
app_for TextPath = object_app TextPath
app_for SourcePath = object_app SourcePath
app_for AddText = object_app AddText
app_for AddSource = object_app AddSource
app_for Info = path_app Info
app_for CatNar = path_app CatNar
app_for Why = path_app Why
app_for Root = root_app
app_for Unroot = unroot_app
app_for Profile = profile_app
app_for Temp = temp_app
app_for Gc = gc_app
app_for Delete = delete_app
app_for Serve = serve_app

-- `nixkeep [OPTIONS] SUBCOMMAND ..`
unfoldable pub nixkeep_app : App
nixkeep_app = fold (λ app verb. adding app (app_for verb)) options_app verbs
