-- How many pages of a file are kept in memory.
use Rattle.std.specs.Prelude.{ℕ, ◌+◌, ◌/◌, nat_le, cond, max}

-- all pages of a database whose file has this length, which has this number by its log, and whose pages have this
-- number of bytes; and 256 more
abbrev pub all_pages : ℕ → ℕ → ℕ → ℕ
all_pages len logged page = max (len / page) logged + 256

-- how many pages are cached: together at most 256 MiB, and at least 8,192,000 bytes
abbrev pub cached_pages : ℕ → ℕ → ℕ → ℕ
cached_pages len logged page =
    cond (nat_le (all_pages len logged page) (268435456 / page)) (max (all_pages len logged page) (8192000 / page))
    (8192000 / page)
