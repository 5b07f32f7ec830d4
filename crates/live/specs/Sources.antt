-- Links turned round, as they are kept: for each place, the objects that have an entry to it, by the kind of entry.
use Rattle.std.specs.Prelude.{◌≡◌, ℕ, ◌==◌, List}
use Rattle.std.specs.List.{count_by}
use Rattle.live.specs.Places.{Entries, entries_at}

-- how often a place is among places
abbrev pub times_among : List ℕ → ℕ → ℕ
times_among places t = count_by (λ x. x == t) places

-- the sources of a place by one kind of entry: each object is listed as often as it has such an entry to the place
pub record AreSources (rows : List Entries) (kind : Entries → List ℕ) (place : ℕ) (sources : List ℕ) : Type 0 where
  pub each : (a : ℕ) → times_among sources a ≡ times_among (kind (entries_at rows a)) place
