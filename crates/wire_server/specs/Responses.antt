-- What is replied, and the bytes of a reply.
use Rattle.std.specs.Prelude.{ℕ, Bool, List, ◌++◌, length, codes, Option, None, option_map}
use Rattle.model.specs.declared.refusal.Refusal.{Refusal}
use Rattle.model.specs.declared.refusal.Refusal.TheVariants.{NotValid, NoRoot, NoProfile, NoGeneration, NoRoute}
use Rattle.model.specs.declared.refusal.Refusal.TheVariants.{BadMethod}
use Rattle.model.specs.Refusals.{refusal_line}
use Rattle.wire_server.specs.ReplyHead.{reply_head}
use Rattle.wire_server.specs.declared.response.Response.{Response}

-- a status, a media type, the methods of the route for a refused method, and a text
pub record Replied : Type 0 where
  pub status : ℕ
  pub kind : List ℕ
  pub allow : Option (List ℕ)
  pub text : List ℕ

-- a response as contracts see it
abbrev pub replied : Response → Replied
replied r =
    record { status = r.status; kind = r.kind.now; allow = option_map (λ methods. methods.now) r.allow; text = r.text }

-- the bytes of a reply: a head, with whether the connection is closed and how many bytes the text has; then the text
abbrev pub reply_bytes : Bool → Replied → List ℕ
reply_bytes close r = reply_head r.status r.kind r.allow close (length r.text) ++ r.text

-- ---- statuses

-- the one table of the statuses of refusals: 404 for something missing, 405 for a method that a route doesn't have,
-- else 400
abbrev pub status_of : Refusal → ℕ
status_of NotValid = 404
status_of NoRoot = 404
status_of NoProfile = 404
status_of NoGeneration = 404
status_of NoRoute = 404
status_of BadMethod = 405
status_of _ = 400

-- a text of a status
abbrev pub plain : ℕ → List ℕ → Replied
plain status text = record { status = status; kind = codes "text/plain"; allow = None; text = text }

-- a refusal; with one of a method the methods of the route are listed
abbrev pub refused : Refusal → Option (List ℕ) → Replied
refused r allow = record { status = status_of r; kind = codes "text/plain"; allow = allow; text = refusal_line r }
