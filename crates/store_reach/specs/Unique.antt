-- Pairs that a caller has seen.
use Rattle.std.specs.Prelude.{◌≡◌, false, List, ℕ, map, String}
use Rattle.std.specs.declared.alloc.Global.{Global}
use Rattle.policy.specs.declared.kinds.Class.{Class}
use Rattle.policy.specs.Rules.{is_trusted}
use Rattle.model.specs.World.{Pair, pair_cmp}
use Rattle.tables_outline.specs.Maps.{labelled_bytes}
use Rattle.tables_outline.specs.Gaining.{has_tied}

-- To a caller who gets each pair once, these keys are the pairs that are shown.
abbrev pub AreListed : Class → List (String Global × List ℕ) → List (String Global × List ℕ) → Type 0
AreListed class keys shown =
    is_trusted class ≡ false → (q : Pair)
    → has_tied pair_cmp q (map labelled_bytes keys) ≡ has_tied pair_cmp q (map labelled_bytes shown)
