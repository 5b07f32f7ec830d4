-- The payload of a body is its last part.
use Rattle.std.proofs.Common.{◌≡◌, ℕ, ◌+◌, ◌-◌, List, [], ◌∷◌, ◌++◌, length, drop, sym, ap, ◌∙◌, arith, append_assoc}
use Rattle.std.proofs.Common.{length-append}
use Rattle.std.proofs.Math.Seq.{drop-append_seam}
use Rattle.std.proofs.lemmas.List.{drop_all, nil_from_length}
use Rattle.wire_bodies.specs.Lines.{Entry, Reads, print_entries, spelled}

pub payload_last : (body : List ℕ) (es : List Entry) (payload : List ℕ) → Reads (spelled body) es payload
    → drop (length body - length payload) body ≡ payload
payload_last [] es payload is =
    let size : 1 ≡ length (print_entries es ++ 10 ∷ payload) = ap length is.whole in
    drop_all (length {A = ℕ} [] - length payload) [] (omega arith)
    ∙ sym (nil_from_length payload (omega (arith, size, length-append (print_entries es) (10 ∷ payload))))
payload_last (b ∷ body) es payload is =
    let first = print_entries es ++ 10 ∷ [] in
    let whole : b ∷ body ≡ first ++ payload = is.whole ∙ sym (append_assoc (print_entries es) (10 ∷ []) payload) in
    let size : length (b ∷ body) ≡ length first + length payload = ap length whole ∙ length-append first payload in
    let at : length (b ∷ body) - length payload ≡ length first = omega (arith, size) in
    ap (λ n. drop n (b ∷ body)) at ∙ ap (λ t. drop (length first) t) whole ∙ drop-append_seam first payload
