use Rattle.std.proofs.Common.{◌≡◌, ℕ, List, ◌++◌, length, sym, ap₂, ◌∙◌, inr, Err}
use Rattle.wire_server.specs.Messages.{IsFault}
use Rattle.wire_server.specs.Fields.{fields_at, body_length}
use Rattle.wire_server.proofs.Lines.{little_after}
use Rattle.wire_server.proofs.Reading.{fault_of_head, is_fault, whatever}
use Rattle.wire_server.proofs.message.receive_head.Goals as goal

-- src/receive.rt:95:1
pub returns-in-Err : goal.returns-in-Err
returns-in-Err g c =
    let start = rw c.in-Message.is at c.in_ok-head.ensures in
    let fault = c.in-Err.fault in
    let held = c.receive_start.new.buffer.items in
    let states : Err fault ≡ body_length (fields_at held c.in-Message.head) =
    sym c.in-Err.is ∙ c.length_of_body.ensures
    ∙ ap₂ (λ b h. body_length (fields_at b h)) (c.new.ensures.buf ∙ c.deref.ensures.value) c.new.ensures.head in
    let whole =
    λ (more : List ℕ). is_fault (held ++ more) fault
    (fault_of_head held c.in-Message.head start.1.1.0 fault start.1.1.1 states more) in
    let near = little_after (length c.args.buffer.now.items) held c.in-Message.head start.1.1.0 start.1.1.1 start.1.2 in
    ((start.0.0, start.0.1, start.0.2, tt), (start.1.0, whatever (λ t. IsFault t fault) held _ whole, inr near), tt)
