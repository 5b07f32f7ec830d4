-- The text of every reply.
use Rattle.std.specs.Prelude.{ℕ, List, ◌++◌, length, codes, decimal}
use Rattle.std.specs.List.{flat_map}
use Rattle.paths.specs.StorePath.{full_path}
use Rattle.model.specs.World.{Path, Pair}
use Rattle.model.specs.Reply.{Answer, path, record_of, archive_of, listing_of, paths, roots, changed, generation}
use Rattle.model.specs.Reply.{runtime_count, temporary_count, freed, usage, Reply, done, denied, refused, failed}
use Rattle.model.specs.Refusals.{refusal_line}
use Rattle.report.specs.Stops.{root_text, denial_text, failure_text}
use Rattle.report.specs.Narinfo.{narinfo}
use Rattle.report.specs.Usage.{usage_text}

-- a full path, on a line
abbrev pub path_line : List ℕ → Path → List ℕ
path_line dir p = full_path dir p ++ codes "\n"

-- a full path a line
abbrev pub paths_text : List ℕ → List Path → List ℕ
paths_text dir ps = flat_map (path_line dir) ps

-- a label and a full path, on a line
abbrev pub root_line : List ℕ → Pair → List ℕ
root_line dir root = root_text dir root ++ codes "\n"

-- a label and a full path a line
abbrev pub roots_text : List ℕ → List Pair → List ℕ
roots_text dir rs = flat_map (root_line dir) rs

-- the text of an answer, in a store directory; archives and listings are as they are
abbrev pub answer_text : List ℕ → Answer → List ℕ
answer_text dir (path p) = path_line dir p
answer_text dir (record_of i) = narinfo dir i
answer_text dir (archive_of b) = b
answer_text dir (listing_of b) = b
answer_text dir (paths ps) = paths_text dir ps
answer_text dir (roots rs) = roots_text dir rs
answer_text dir changed = codes "done\n"
answer_text dir (generation n) = codes "generation " ++ decimal n ++ codes "\n"
answer_text dir (runtime_count n) = codes "runtime roots " ++ decimal n ++ codes "\n"
answer_text dir (temporary_count n) = codes "temporary roots " ++ decimal n ++ codes "\n"
answer_text dir (freed ps n) =
    paths_text dir ps ++ codes "freed " ++ decimal (length ps) ++ codes " paths " ++ decimal n ++ codes " bytes\n"
answer_text dir (usage live dead total) = usage_text live dead total

-- the text of a reply
abbrev pub reply_text : List ℕ → Reply → List ℕ
reply_text dir (done a) = answer_text dir a
reply_text dir (denied rule root) = denial_text dir rule root
reply_text dir (refused r) = refusal_line r
reply_text dir (failed f) = failure_text f
