-- How a reply is written.
use Rattle.std.specs.Prelude.{◌⊎◌, ℕ, List}
use Rattle.std.specs.Io.KnownBytes.{Keeps}
use Rattle.model.specs.Reply.{Reply, done, denied, refused, failed}
use Rattle.report.specs.Replies.{answer_text, reply_text}
use Rattle.report.specs.Outputs.{RunsOutOfMemory, Offers, Prints, Written, on_errors}

-- the exit status of a reply
abbrev pub status_of : Reply → ℕ
status_of (done a) = 0
status_of (denied rule root) = 4
status_of (refused r) = 3
status_of (failed f) = 1

-- the text of what is done goes to standard output, and that of any other reply to standard error
abbrev pub PrintsReply : List ℕ → Reply → Written → Type 0
PrintsReply dir (done a) w = Offers (answer_text dir a) w
PrintsReply dir (denied rule root) w =
    Keeps w.output.old w.output.new
    × Prints (reply_text dir (denied rule root)) (status_of (denied rule root)) (on_errors w)
PrintsReply dir (refused r) w =
    Keeps w.output.old w.output.new × Prints (reply_text dir (refused r)) (status_of (refused r)) (on_errors w)
PrintsReply dir (failed f) w =
    Keeps w.output.old w.output.new × Prints (reply_text dir (failed f)) (status_of (failed f)) (on_errors w)

-- a reply was written; or memory ran out for its text
abbrev pub IsPrinted : List ℕ → Reply → Written → Type 0
IsPrinted dir reply w = PrintsReply dir reply w ⊎ RunsOutOfMemory w
