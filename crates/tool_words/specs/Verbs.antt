-- The subcommands by their names.
use Rattle.std.specs.Prelude.{List, [], ◌∷◌, ℕ, codes, Option, find}
use Rattle.std.specs.Str.{bytes_eq}
use Rattle.tool_words.specs.declared.verb.Verb.{Verb}
use Rattle.tool_words.specs.declared.verb.Verb.TheVariants.{Who, TextPath, SourcePath, Ls, AddText, AddSource, Import}
use Rattle.tool_words.specs.declared.verb.Verb.TheVariants.{Runtime, Info, CatNar, Why, List as ListPaths, Roots, Live}
use Rattle.tool_words.specs.declared.verb.Verb.TheVariants.{Dead, Report, Root, Unroot, Profile, Temp, Gc, Delete}
use Rattle.tool_words.specs.declared.verb.Verb.TheVariants.{Serve}

-- the name of a subcommand
abbrev pub verb_name : Verb → List ℕ
verb_name Who = codes "who"
verb_name TextPath = codes "text-path"
verb_name SourcePath = codes "source-path"
verb_name Ls = codes "ls"
verb_name AddText = codes "add-text"
verb_name AddSource = codes "add-source"
verb_name Import = codes "import"
verb_name Runtime = codes "runtime"
verb_name Info = codes "info"
verb_name CatNar = codes "cat-nar"
verb_name Why = codes "why"
verb_name ListPaths = codes "list"
verb_name Roots = codes "roots"
verb_name Live = codes "live"
verb_name Dead = codes "dead"
verb_name Report = codes "report"
verb_name Root = codes "root"
verb_name Unroot = codes "unroot"
verb_name Profile = codes "profile"
verb_name Temp = codes "temp"
verb_name Gc = codes "gc"
verb_name Delete = codes "delete"
verb_name Serve = codes "serve"

-- all subcommands, in the order of the help
abbrev pub verbs : List Verb
verbs = Who ∷ Ls ∷ Import ∷ Runtime ∷ ListPaths ∷ Roots ∷ Live ∷ Dead ∷ Report ∷ TextPath
    ∷ SourcePath ∷ AddText ∷ AddSource ∷ Info ∷ CatNar ∷ Why ∷ Root ∷ Unroot ∷ Profile
    ∷ Temp ∷ Gc ∷ Delete ∷ Serve ∷ []

-- the subcommand of this name
abbrev pub verb_named : List ℕ → Option Verb
verb_named name = find (λ v. bytes_eq (verb_name v) name) verbs
