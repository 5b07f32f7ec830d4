-- The bytes that are held are what the whole input begins with.
use Rattle.std.proofs.Common.{◌≡◌, ℕ, ◌+◌, List, ◌++◌, length, take, drop, Ok, sym, ap, ◌∙◌, arith, append_assoc, subst}
use Rattle.std.proofs.Common.{length-take, length-drop, take-append-drop}
use Rattle.std.proofs.lemmas.List.{drop-drop}
use Rattle.httparse.specs.Grammar.{RequestHead}
use Rattle.wire_server.specs.declared.head.Head.{Head}
use Rattle.wire_server.specs.Heads.{IsHead}
use Rattle.wire_server.specs.Messages.{IsMessage, HoldsMessage}
use Rattle.wire_server.proofs.Longer.{head-append}

-- the body that is held after a head, and what is held after the message
abbrev pub body_in : List ℕ → Head → ℕ → List ℕ
body_in held head size = take size (drop head.spans.len held)

-- the input is that message, what is left of the bytes that are held, and what follows them
pub message_of_input : (held more : List ℕ) (head : Head) (size : ℕ) (h : RequestHead) → HoldsMessage held head size h
    → IsMessage (held ++ more) h (body_in held head size) (drop (head.spans.len + size) held ++ more)
message_of_input held more head size h is =
    let len = head.spans.len in
    let behind = drop len held in
    let parts : behind ≡ take size behind ++ drop (len + size) held =
    sym (take-append-drop size behind) ∙ ap (λ t. take size behind ++ t) (drop-drop size len held) in
    let after : behind ++ more ≡ take size behind ++ (drop (len + size) held ++ more) =
    ap (λ t. t ++ more) parts ∙ append_assoc (take size behind) (drop (len + size) held) more in
    let count : length (take size behind) ≡ size =
    omega (arith, length-take size behind, length-drop len held, is.whole) in
    record {
      head = subst (IsHead (held ++ more) h) after (head-append held more h behind is.holds.is_head);
      size = is.states ∙ ap Ok (sym count);
    }
