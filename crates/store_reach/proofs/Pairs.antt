-- Tests of pairs in memory, and of what they are seen as.
use Rattle.std.proofs.Common.{◌≡◌, ℕ, List, [], ◌∷◌, map, ◌&&◌, ◌||◌, refl, String, string_bytes}
use Rattle.std.specs.List.{list_any}
use Rattle.std.specs.Prelude.{nat_eq}
use Rattle.std.specs.Cmp.Lexicographic.{pointwise, texts_ties}
use Rattle.std.specs.declared.alloc.Global.{Global}
use Rattle.std.specs.String.{string_eq}
use Rattle.tables_outline.specs.Maps.{labelled_bytes}
use Rattle.model.specs.Seen.{same_pair}

-- whether a pair is among others
pub among : (ps : List (String Global × List ℕ)) (p : String Global × List ℕ)
    → list_any (λ q. string_eq q.0 p.0 && pointwise nat_eq q.1 p.1) ps
    ≡ list_any (λ q. same_pair q (labelled_bytes p)) (map labelled_bytes ps)
among [] p = refl
among (q ∷ ps) p = λ i. (texts_ties (string_bytes q.0) (string_bytes p.0) i && texts_ties q.1 p.1 i) || among ps p i
