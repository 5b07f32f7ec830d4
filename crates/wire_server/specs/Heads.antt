-- The head of a message at the beginning of an input.
use Rattle.std.specs.Prelude.{ℕ, Bool, not, ◌||◌, ◌≤◌, ◌==◌, List, [], ◌∷◌, ◌++◌, length, take, drop, ◌≡◌, true}
use Rattle.std.specs.List.{list_any}
use Rattle.httparse.specs.Grammar.{RequestHead, print_request, ReadsRequest, HasNoRequest, NeverHasRequest}
use Rattle.httparse.specs.Spans.{IsRequestAt, IsRequestWithin}
use Rattle.wire_server.specs.declared.head.Head.{Head}

-- the most bytes of a head, and the most fields
abbrev pub max_head : ℕ
max_head = 16384

abbrev pub max_fields : ℕ
max_fields = 64

-- the input begins with the head h, and rest follows it
pub record IsHead (input : List ℕ) (h : RequestHead) (rest : List ℕ) : Type 0 where
  pub reads : ReadsRequest input h rest
  pub short : length (print_request h) ≤ max_head
  pub few : length h.fields ≤ max_fields

-- the input begins with no head
abbrev pub HasNoHead : List ℕ → Type 0
HasNoHead input = (h : RequestHead) (rest : List ℕ) → ¬ (IsHead input h rest)

-- a byte other than those of line ends (13 and 10) is among the bytes
abbrev pub has_begun_in : List ℕ → Bool
has_begun_in bytes = list_any (λ b. not (b == 13 || b == 10)) bytes

-- the input begins with a line, or several, and its line feed, and no request begins so, whatever follows; `after`
-- follows here
abbrev pub ShowsNoHead : List ℕ → List ℕ → List ℕ → Type 0
ShowsNoHead input line after = (input ≡ line ++ 10 ∷ after) × NeverHasRequest (line ++ 10 ∷ [])

-- no line does, but one of line ends alone
abbrev pub ShowsNothing : List ℕ → Type 0
ShowsNothing bytes = (line after : List ℕ) → ShowsNoHead bytes line after → ¬ (has_begun_in line ≡ true)

-- the bytes of a buffer that were looked at have no head, and whether anything but line ends is among them
pub record WasSeen (buf : List ℕ) (seen : ℕ) (before : Bool) : Type 0 where
  pub within : seen ≤ length buf
  pub none : HasNoRequest (take seen buf)
  pub begun : before ≡ has_begun_in (take seen buf)

-- the buffer begins with the head h, whose parts are at these places
pub record Holds (buf : List ℕ) (head : Head) (h : RequestHead) : Type 0 where
  pub is_head : IsHead buf h (drop head.spans.len buf)
  pub places : IsRequestAt buf head.fields head.spans h
  pub within : IsRequestWithin buf head.fields head.spans
