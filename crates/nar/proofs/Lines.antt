-- The lines of one entry more.
use Rattle.std.proofs.Common.{◌≡◌, ℕ, ◌+◌, ◌<◌, List, [], ◌∷◌, ◌++◌, codes, length, take, get_or, sym, ap, ◌∙◌}
use Rattle.std.proofs.Common.{append_assoc}
use Rattle.std.proofs.lemmas.List.{take_more, append-nil}
use Rattle.nar.specs.declared.node.Entry.{Entry}
use Rattle.nar.specs.Listing.{escaped, listing, lines}
use Rattle.nar.specs.View.{pair_of, trees_of}

abbrev pub line_of : List ℕ → Entry → List ℕ
line_of path e = listing (path ++ codes "/" ++ escaped (pair_of e).0) (pair_of e).1

pub lines-push : (path : List ℕ) (es : List Entry) (e : Entry)
    → lines path (trees_of (es ++ e ∷ [])) ≡ lines path (trees_of es) ++ line_of path e
lines-push path [] e = append-nil (line_of path e)
lines-push path (f ∷ es) e =
    ap (λ (v : List ℕ). line_of path f ++ v) (lines-push path es e)
    ∙ sym (append_assoc (line_of path f) (lines path (trees_of es)) (line_of path e))

pub lines_more : (path old head now after : List ℕ) (es : List Entry) (i : ℕ) (e : Entry) → i < length es
    → e ≡ get_or es i e → now ≡ old ++ (head ++ lines path (trees_of (take i es))) → after ≡ now ++ line_of path e
    → after ≡ old ++ (head ++ lines path (trees_of (take (i + 1) es)))
lines_more path old head now after es i e lt is so_far new =
    let more : take (i + 1) es ≡ take i es ++ e ∷ [] =
    take_more es i e lt ∙ ap (λ (f : Entry). take i es ++ f ∷ []) (sym is) in
    let ls : List ℕ = lines path (trees_of (take i es)) in
    rw (more, lines-push path (take i es) e)
    (new ∙ ap (λ (v : List ℕ). v ++ line_of path e) so_far ∙ append_assoc old (head ++ ls) (line_of path e)
    ∙ ap (λ (v : List ℕ). old ++ v) (append_assoc head ls (line_of path e)))
