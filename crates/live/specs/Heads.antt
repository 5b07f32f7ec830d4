-- The first bytes of texts as numbers: if these differ, they have the order of the texts. And the bytes of borrowed
-- texts.
use Rattle.std.specs.Prelude.{◌≡◌, ℕ, zero, suc, ◌+◌, ◌*◌, ◌^◌, ◌<◌, List, [], length, map}
use Rattle.std.specs.List.{slice_index, slice_index_or}
use Rattle.std.specs.Borrow.{Bor}
use Rattle.live.specs.Graph.{Path}
use Rattle.live.specs.Numbering.{Rise}

-- the number that some bytes are from a place on, each a digit of base 256; past the end there are zeros
abbrev pub digits_from : (count : ℕ) → ℕ → List ℕ → ℕ
digits_from zero k xs = 0
digits_from (suc n) k xs = slice_index xs k * 256 ^ n + digits_from n (suc k) xs

-- the number that the first eight bytes are
abbrev pub head_of : List ℕ → ℕ
head_of xs = digits_from 8 0 xs

-- each item is a byte
abbrev pub IsBytes : List ℕ → Type 0
IsBytes xs = (k : ℕ) → slice_index xs k < 256

-- the heads of some paths, all of bytes
pub record AreHeads (paths : List Path) (heads : List ℕ) : Type 0 where
  pub count : length heads ≡ length paths
  pub head : (k : ℕ) → k < length paths → slice_index heads k ≡ head_of (slice_index_or paths k [])
  pub bytes : (k : ℕ) → k < length paths → IsBytes (slice_index_or paths k [])

-- the texts of some paths
pub record AreTexts (paths : List Path) (texts : List (Bor (List ℕ))) : Type 0 where
  pub are : map (λ t. t.now) texts ≡ paths

-- paths that strictly rise, with their heads
pub record AreHeaded (paths : List Path) (firsts : List ℕ) : Type 0 where
  pub rise : Rise paths
  pub heads : AreHeads paths firsts

-- paths that strictly rise, with their heads and their texts
pub record AreIndexed (paths : List Path) (firsts : List ℕ) (lent : List (Bor (List ℕ))) : Type 0 where
  pub headed : AreHeaded paths firsts
  pub texts : AreTexts paths lent
