-- What a reply of the store is answered with.
use Rattle.std.specs.Prelude.{ℕ, List, codes, None}
use Rattle.model.specs.Reply.{Reply, done, denied, refused, failed, archive_of}
use Rattle.report.specs.Replies.{reply_text}
use Rattle.wire_server.specs.Responses as responses
use Rattle.wire_server.specs.Responses.{Replied}

-- 200 for what is done, 403 for a denial, the status of a refusal, and 503 for a failure
abbrev pub status_of : Reply → ℕ
status_of (done a) = 200
status_of (denied rule root) = 403
status_of (refused r) = responses.status_of r
status_of (failed f) = 503

-- an archive is sent as bytes, all else as text
abbrev pub kind_of : Reply → List ℕ
kind_of (done (archive_of b)) = codes "application/octet-stream"
kind_of _ = codes "text/plain"

-- the response, over a store directory
abbrev pub response_to : List ℕ → Reply → Replied
response_to dir reply =
    record { status = status_of reply; kind = kind_of reply; allow = None; text = reply_text dir reply }
