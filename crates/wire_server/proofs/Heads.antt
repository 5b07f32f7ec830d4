-- When the bytes of a buffer decide which head an input has.
use Rattle.std.proofs.Common.{◌≡◌, ℕ, ◌+◌, ◌-◌, ◌<◌, ◌≤◌, List, [], ◌∷◌, ◌++◌, length, take, drop, get_or, inl, inr}
use Rattle.std.proofs.Common.{true, false, refl, sym, ap, ◌∙◌, arith, append_assoc, append-nil, subst, length-append}
use Rattle.std.proofs.Common.{length-drop}
use Rattle.std.specs.Prelude.{◌==◌}
use Rattle.std.specs.List.{flat_map}
use Rattle.std.proofs.Math.Seq.{take-append_seam, take-append-add, get_or-append_seam}
use Rattle.std.proofs.lemmas.List.{get_or-drop}
use Rattle.std.proofs.lemmas.Bool.{cases_lt}
use Rattle.httparse.specs.Grammar.{LineEnd, crlf, lf, print_end, print_blank, print_version, print_field, print_section}
use Rattle.httparse.specs.Grammar.{RequestHead, print_request, ReadsRequest, HasNoRequest}
use Rattle.httparse.proofs.GrammarLemmas.{request_prefix_free, print_request-append}
use Rattle.wire_server.specs.Heads.{HasNoHead, max_head}

-- the text ends in a line feed
abbrev pub Ends : List ℕ → Type 0
Ends text = (p : List ℕ) × (text ≡ p ++ 10 ∷ [])

ends_behind : (a text : List ℕ) → Ends text → Ends (a ++ text)
ends_behind a text ends = (a ++ ends.0, ap (λ t. a ++ t) ends.1 ∙ sym (append_assoc a ends.0 (10 ∷ [])))

ends_after : (b : ℕ) (text : List ℕ) → Ends text → Ends (b ∷ text)
ends_after b text ends = (b ∷ ends.0, ap (λ t. b ∷ t) ends.1)

end_ends : (e : LineEnd) → Ends (print_end e)
end_ends crlf = (13 ∷ [], refl)
end_ends lf = ([], refl)

-- a head ends in a line feed
pub ends_in_line_feed : (h : RequestHead) → Ends (print_request h)
ends_in_line_feed h =
    let section : Ends (print_section h.fields h.last ++ []) =
    subst Ends (sym (append-nil (print_section h.fields h.last)))
    (ends_behind (flat_map print_field h.fields) _ (end_ends h.last)) in
    subst Ends (sym (print_request-append h []) ∙ append-nil (print_request h))
    (ends_behind (print_blank h.blank) _ (ends_behind h.method _ (ends_after 32 _ (ends_behind h.target _
    (ends_after 32 _ (ends_behind (print_version h.minor) _ (ends_behind (print_end h.line_end) _ section)))))))

-- a prefix of the bytes that has the whole head begins with it too
pub head_in_prefix : (buf : List ℕ) (h : RequestHead) (rest : List ℕ) (n : ℕ) → ReadsRequest buf h rest
    → length (print_request h) ≤ n
    → ReadsRequest (take n buf) h (take (n - length (print_request h)) rest)
head_in_prefix buf h rest n reads fits =
    let k = n - length (print_request h) in
    let same : n ≡ length (print_request h) + k = omega arith in (
      reads.0,
      ap (take n) reads.1 ∙ ap (λ m. take m (print_request h ++ rest)) same
          ∙ take-append-add (print_request h) rest k,
    )

-- the empty buffer has no head
pub none_in_nothing : HasNoRequest []
none_in_nothing h rest reads =
    let ends = ends_in_line_feed h in
    let e : 0 ≡ length (ends.0 ++ 10 ∷ []) + length rest =
    ap length reads.1 ∙ length-append (print_request h) rest ∙ ap (λ t. length t + length rest) ends.1 in
    absurd (omega (arith, length-append ends.0 (10 ∷ [])))

-- more bytes end no head where no line feed is among them
pub none_without_line_feed : (buf : List ℕ) (seen : ℕ) → seen ≤ length buf → HasNoRequest (take seen buf)
    → (new : List ℕ) → new ≡ drop seen buf → ((k d : ℕ) → 0 ≤ k → k < length new → (get_or new k d == 10) ≡ false)
    → HasNoRequest buf
none_without_line_feed buf seen within none new is lacks h rest reads =
    elim (cases_lt seen (length (print_request h))) [
      | inl later ↦
          let ends = ends_in_line_feed h in
          let size : length (print_request h) ≡ length ends.0 + 1 = ap length ends.1 ∙ length-append ends.0 (10 ∷ []) in
          let whole : length buf ≡ length (print_request h) + length rest =
          ap length reads.1 ∙ length-append (print_request h) rest in
          let k = length ends.0 - seen in
          let place : seen + k ≡ length ends.0 = omega arith in
          let text : buf ≡ ends.0 ++ 10 ∷ rest =
          reads.1 ∙ ap (λ t. t ++ rest) ends.1 ∙ append_assoc ends.0 (10 ∷ []) rest in
          let found : get_or new k 0 ≡ 10 =
          ap (λ t. get_or t k 0) is ∙ get_or-drop seen buf k 0 ∙ ap (λ i. get_or buf i 0) place
          ∙ ap (λ t. get_or t (length ends.0) 0) text ∙ get_or-append_seam ends.0 10 rest 0 in
          let not : (get_or new k 0 == 10) ≡ false =
          lacks k 0 (omega arith) (omega (arith, length-drop seen buf, ap length is)) in
          let yes : (get_or new k 0 == 10) ≡ true = ap (λ b. b == 10) found in
          cc
      | inr before ↦ none h _ (head_in_prefix buf h rest seen reads before)
    ]

-- bytes that have no head and are no fewer than a head may have begin no input that has one
pub too_long : (buf : List ℕ) → HasNoRequest buf → max_head ≤ length buf → (more : List ℕ) → HasNoHead (buf ++ more)
too_long buf none long more h rest is =
    let prefix = head_in_prefix (buf ++ more) h rest (length buf) is.reads (omega (arith, is.short)) in
    none h _ (subst (λ t. ReadsRequest t h (take (length buf - length (print_request h)) rest))
    (take-append_seam buf more) prefix)

-- a head at the beginning that is too long is the only one
pub only_too_long : (buf : List ℕ) (k : RequestHead) (q : List ℕ) → ReadsRequest buf k q
    → max_head < length (print_request k)
    → (more : List ℕ) → HasNoHead (buf ++ more)
only_too_long buf k q reads long more h rest is =
    let same = request_prefix_free buf more k h q rest reads is.reads in
    let e : length (print_request k) ≡ length (print_request h) = ap (λ x. length (print_request x)) same.0 in
    absurd (omega (arith, is.short))
