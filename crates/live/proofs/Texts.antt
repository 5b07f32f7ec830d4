-- A path that is found by its text.
use Rattle.std.proofs.Common.{◌≡◌, ℕ, ◌<◌, Bool, true, List, [], length, get_or, Some, sym, ap, ◌∙◌, arith}
use Rattle.std.specs.Borrow.{Bor}
use Rattle.std.specs.Prelude.{nat_eq}
use Rattle.std.specs.Cmp.Lexicographic.{pointwise}
use Rattle.std.proofs.lemmas.Bool.Decides.{Decides-eqb}
use Rattle.std.proofs.lemmas.List.{length-map, get_or-map}
use Rattle.std.proofs.lemmas.Slice.Eq.{slice_eq-Decides}
use Rattle.live.specs.Graph.{Path}
use Rattle.live.specs.Heads.{AreTexts}
use Rattle.live.specs.Numbering.{place_of, Rise}
use Rattle.live.proofs.Numberings.{place_at}

pub found : (paths : List Path) → Rise paths → (texts : List (Bor (List ℕ))) → AreTexts paths texts → (k : ℕ)
    → k < length texts → (d : Bor (List ℕ)) (text p : List ℕ) (r : Bool)
    → r ≡ pointwise nat_eq (get_or texts k d).now text → r ≡ true → text ≡ p → Some k ≡ place_of paths p
found paths rise texts a k below d text p r e equal is =
    let same = (slice_eq-Decides Decides-eqb (get_or texts k d).now text r e).0 equal in
    let at : get_or paths k [] ≡ (get_or texts k d).now =
    sym (ap (λ (ps : List Path). get_or ps k []) a.are)
    ∙ get_or-map (λ (t : Bor (List ℕ)). t.now) texts k d [] below in
    let inside : k < length paths =
    (let n = length-map texts (λ (t : Bor (List ℕ)). t.now) in let m = ap length a.are in omega arith) in
    sym (ap (place_of paths) (sym (at ∙ same ∙ is)) ∙ place_at paths rise k inside)
