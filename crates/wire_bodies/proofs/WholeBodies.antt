-- What whole bodies say.
use Rattle.std.proofs.Common.{◌≡◌, ℕ, List, [], ◌∷◌, ◌++◌, subst, String, string_bytes}
use Rattle.std.proofs.lemmas.List.{map-append}
use Rattle.wire_bodies.specs.Lines.{Entry, Reads, spelled}
use Rattle.wire_bodies.specs.Bodies.{Says, labelled}
use Rattle.wire_bodies.proofs.Reading.{reads_once}

-- what the one list of entries of a body doesn't say, the body doesn't
pub says_none : {A : Type 0} (says : List Entry → A → Type 0) (body : List ℕ) (es : List Entry)
    → Reads (spelled body) es []
    → ((x : A) → says es x → ⊥) → (x : A) → Says says body x → ⊥
says_none says body es read none x is =
    none x (subst (λ fs. says fs x) (reads_once (spelled body) is.0 es [] [] is.1 read).0 is.2)

-- one root more
pub labelled-more : {Z : Type 0} (roots : List (String Z × List ℕ)) (root : String Z × List ℕ)
    → labelled (roots ++ root ∷ []) ≡ labelled roots ++ (string_bytes root.0, root.1) ∷ []
labelled-more roots root = map-append (λ r. (string_bytes r.0, r.1)) roots (root ∷ [])
