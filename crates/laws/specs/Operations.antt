-- Laws of what the rules ask of a request: of which they ask nothing but that its caller may connect.
use Rattle.std.specs.Prelude.{◌≡◌, ◌⊎◌}
use Rattle.policy.specs.Settings.{Settings}
use Rattle.policy.specs.Caller.{Caller}
use Rattle.policy.specs.Operation.{plain}
use Rattle.model.specs.World.{World}
use Rattle.model.specs.Request.{Request, add_text, add_source}
use Rattle.model.specs.Reply.{Reply}
use Rattle.model.specs.Step.{Step}
use Rattle.model.specs.Verdict.{operation_of}
use Rattle.laws.specs.ReadOnly.{OnlyReads}

-- an add whose path follows from what is added: a text or a source
abbrev pub AddsByContents : Request → Type 0
AddsByContents (add_text name refs contents) = Unit {0}
AddsByContents (add_source name refs b) = Unit {0}
AddsByContents _ = ⊥

-- a plain request, of which the rules ask nothing else, only reads, or adds a text or a source: each other request has
-- an operation of its own
abbrev pub ReadsAndAddsAlonePlain : Type 0
ReadsAndAddsAlonePlain = (q : Request) → operation_of q ≡ plain → OnlyReads q ⊎ AddsByContents q

-- so a plain request that adds nothing changes nothing
abbrev pub PlainRequestsOnlyAdd : Type 0
PlainRequestsOnlyAdd =
    (s : Settings) (w : World) (c : Caller) (q : Request) (reply : Reply) (new : World) → Step s w c q reply new
    → operation_of q ≡ plain → (new ≡ w) ⊎ AddsByContents q
