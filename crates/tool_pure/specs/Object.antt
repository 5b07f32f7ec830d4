-- The answers of `text-path` and `source-path`: the store paths of objects.
use Rattle.std.specs.Prelude.{ℕ, ◌+◌, ◌-◌, Bool, not, if◌then◌else◌, nat_lt, List, length, Option, Some, None, Result}
use Rattle.std.specs.Prelude.{Ok, Err}
use Rattle.std.specs.List.{list_all}
use Rattle.std.specs.Option.{option_map_or}
use Rattle.paths.specs.Names.{is_store_name}
use Rattle.paths.specs.StorePath.{is_base_name, base_of}
use Rattle.paths.specs.Path.{text_path, source_path}
use Rattle.nar.specs.Archive.{limit}
use Rattle.nar.specs.Outcome.{outcome_of}
use Rattle.model.specs.Objects.{most_references}
use Rattle.model.specs.declared.refusal.Refusal.{Refusal}
use Rattle.model.specs.declared.refusal.Refusal.TheVariants.{TooLarge, BadStoreName, BadStorePath, TooManyReferences}
use Rattle.tool_pure.specs.declared.stops.Stop.{Stop}
use Rattle.tool_pure.specs.declared.stops.Stop.TheVariants.{Refused}
use Rattle.tool_pure.specs.Archive.{by_outcome}
use Rattle.report.specs.Replies.{path_line}

-- whether a text is a path text: a full path in the store directory, or a base name
abbrev pub is_path_text : List ℕ → List ℕ → Bool
is_path_text dir text = is_base_name (base_of dir text)

-- the longest contents whose archive isn't too large: the rest of an archive of one file takes 112 bytes
abbrev pub max_contents : ℕ
max_contents = limit - 112

-- how many bytes of contents decide whether they are too long
abbrev pub most_of_contents : ℕ
most_of_contents = max_contents + 1

-- what is wrong with the name of an object, or with its references
abbrev pub named_fault : List ℕ → List ℕ → List (List ℕ) → Option Refusal
named_fault dir name refs =
    if not (is_store_name name) then Some BadStoreName
    else if not (list_all (is_path_text dir) refs) then Some BadStorePath
    else None

-- whether the references are too many
abbrev pub count_fault : List (List ℕ) → Option Refusal
count_fault refs = if nat_lt most_references (length refs) then Some TooManyReferences else None

-- why an object of this name with these references is refused, before its contents are looked at
abbrev pub object_fault : List ℕ → List ℕ → List (List ℕ) → Option Refusal
object_fault dir name refs = option_map_or Some (named_fault dir name refs) (count_fault refs)

-- what `text-path` answers to contents: the path of the text object, unless its archive would be too large
abbrev pub text_path_answer : List ℕ → List ℕ → List (List ℕ) → List ℕ → Result (List ℕ) Stop
text_path_answer dir name refs contents =
    if nat_lt max_contents (length contents) then Err (Refused TooLarge)
    else Ok (path_line dir (text_path dir name refs contents))

-- what `source-path` answers to an input: the path of the source object, where it is an archive
abbrev pub source_path_answer : List ℕ → List ℕ → List (List ℕ) → List ℕ → Result (List ℕ) Stop
source_path_answer dir name refs bytes =
    by_outcome (outcome_of bytes) (λ tree. path_line dir (source_path dir name refs bytes))
