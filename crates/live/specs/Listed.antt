-- The search for waiting places: the blocks of neighbours in which places wait are listed.
use Rattle.std.specs.Prelude.{◌≡◌, ℕ, Bool, List, ◌*◌, ◌/◌, ◌<◌, ◌≤◌, ◌⊎◌, length, Contains}
use Rattle.live.specs.Marks.{Waits}

-- the places that wait, the blocks that are listed, the list of these blocks, and what is left of the current block
pub record Waiting : Type 0 where
  pub waiting : List Bool
  pub listed : List Bool
  pub blocks : List ℕ
  pub at : ℕ
  pub end : ℕ

-- each block that is marked is in the list
abbrev pub AllListed : List Bool → List ℕ → Type 0
AllListed listed blocks = (b : ℕ) → Waits listed b → Contains blocks b

-- blocks were listed, or none was
pub record ListsMore (listed news : List Bool) (blocks all : List ℕ) : Type 0 where
  pub count : length news ≡ length listed
  pub kept : (b : ℕ) → Contains blocks b → Contains all b
  pub lists : AllListed news all

-- none waits from one place on and before another
abbrev pub NoneBetween : List Bool → ℕ → ℕ → Type 0
NoneBetween waiting from to = (i : ℕ) → from ≤ i → i < to → Waits waiting i → ⊥

-- the first place that waits from one place on and before another
pub record IsFirstWaiting (waiting : List Bool) (start end place : ℕ) : Type 0 where
  pub waits : Waits waiting place
  pub from : start ≤ place
  pub to : place < end
  pub first : NoneBetween waiting start place

pub record IsListed (w : Waiting) : Type 0 where
  -- a place that waits is in the block at hand, after those that were visited, or in one that is listed
  pub waits : (i : ℕ) → Waits w.waiting i → ((w.at ≤ i) × (i < w.end)) ⊎ Contains w.blocks (i / 256)
  pub lists : AllListed w.listed w.blocks
  pub ordered : w.at ≤ w.end
  pub within : w.end ≤ length w.waiting
  pub room : length w.waiting ≤ length w.listed * 256
