-- What is kept of the body of a message, and the request that is made of it.
use Rattle.std.specs.Prelude.{◌≡◌, ◌⊎◌, ◌==◌, ◌++◌, ℕ, Bool, true, false, cond, List, [], ◌∷◌, Option, Some, None}
use Rattle.std.specs.Prelude.{IsTrue}
use Rattle.intake.specs.Arrival.{bytes_in}
use Rattle.model.specs.Request as asked
use Rattle.model.specs.Request.{add_source, import_object}
use Rattle.store_types.specs.Spent.{is_spent}
use Rattle.store_types.specs.View.{request_view}
use Rattle.store_types.specs.declared.requests.Request.{Request}
use Rattle.wire_bodies.specs.Prefix.{prefix_of, rest_of}
use Rattle.wire_requests.specs.declared.blank.Blank.{Blank}
use Rattle.wire_requests.specs.declared.blank.Blank.TheVariants.{Nothing, LineFeed, More}
use Rattle.wire_requests.specs.declared.body.Storage.{Storage}
use Rattle.wire_requests.specs.declared.body.Storage.TheVariants as storage
use Rattle.wire_requests.specs.declared.kind.Form.{Form}
use Rattle.wire_requests.specs.declared.kind.Form.TheVariants.{Bare, Whole, Parted}
pub use Rattle.wire_requests.specs.Table.{form_of}

-- ---- the form of a body

abbrev pub form_in : Storage → Form
form_in (storage.Bare came) = Bare
form_in (storage.Whole bytes) = Whole
form_in (storage.Parted parts) = Parted

-- ---- what is kept

-- what has come of a body that has to be empty, or one line feed (10)
abbrev pub blank_of : List ℕ → Blank
blank_of [] = Nothing
blank_of (b ∷ []) = cond (b == 10) LineFeed More
blank_of (b ∷ c ∷ bytes) = More

-- whether such a body says nothing
abbrev pub allows : Blank → Bool
allows Nothing = true
allows LineFeed = true
allows More = false

-- Lines and an archive stand for the body that has both; if memory was refused for the archive, for each body that has
-- these lines.
abbrev pub IsParted : List ℕ → Option (List ℕ) → List ℕ → Type 0
IsParted lines None body = prefix_of body ≡ lines
IsParted lines (Some nar) body = (prefix_of body ≡ lines) × (rest_of body ≡ nar)

-- lines and an archive, without what memory was refused for
abbrev pub bytes_of : List ℕ × Option (List ℕ) → List ℕ
bytes_of parts = parts.0 ++ bytes_in parts.1

-- What is kept stands for this body.
abbrev pub Represents : Storage → List ℕ → Type 0
Represents (storage.Bare came) body = came ≡ blank_of body
Represents (storage.Whole bytes) body = bytes ≡ body
Represents (storage.Parted parts) body = IsParted parts.0 parts.1 body

-- ---- what is made of it

-- a request but for its archive
abbrev pub without_archive : asked.Request → asked.Request
without_archive (add_source name refs nar) = add_source name refs []
without_archive (import_object i) = import_object (record i { nar = [] })
without_archive q = q

-- A request that was made is the one that is asked; or memory was refused for its archive, which is spent, and it is
-- the one that is asked in all else.
abbrev pub IsRequest : Request → asked.Request → Type 0
IsRequest made q = (request_view made ≡ q) ⊎ (IsTrue (is_spent made) × (request_view made ≡ without_archive q))
