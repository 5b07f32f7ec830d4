use Rattle.std.proofs.Common.{◌≡◌, codes, Some, sym, subst, ◌∙◌}
use Rattle.std.specs.Prelude.{IfOk}
use Rattle.wire_server.specs.Fields.{fields_at, values}
use Rattle.wire_server.proofs.PlainText.{no_group_of, two_named}
use Rattle.wire_server.proofs.caller.read_caller.Goals as goal

-- src/caller.rt:28:1
pub returns-in-Err-clause-bad : goal.returns-in-Err-clause-bad
returns-in-Err-clause-bad c = λ same.
    no_group_of _ _ c.in-One.user c.in-One-values_of.group c.in-One.ensures c.in-One-values_of.ensures
    c.in-Err.ensures.cases.0

pub returns-in-Ok-clause-ok : goal.returns-in-Ok-clause-ok
returns-in-Ok-clause-ok c =
    let fields = fields_at c.args.fields.now.buf.now c.args.fields.now.head.now in
    let same =
    two_named (values (codes "store-user") fields) (values (codes "store-group") fields) c.in-One.user
    c.in-One-values_of.group c.in-Ok.group.now
    c.in-One.ensures c.in-One-values_of.ensures c.in-Ok.ensures.cases.0 in
    subst (λ named. IfOk c.caller_named-in-Ok.result (λ k. named ≡ Some k)) same c.caller_named-in-Ok.ensures.ok

pub returns-in-Ok-clause-bad : goal.returns-in-Ok-clause-bad
returns-in-Ok-clause-bad c = λ bad.
    let fields = fields_at c.args.fields.now.buf.now c.args.fields.now.head.now in
    let same =
    two_named (values (codes "store-user") fields) (values (codes "store-group") fields) c.in-One.user
    c.in-One-values_of.group c.in-Ok.group.now
    c.in-One.ensures c.in-One-values_of.ensures c.in-Ok.ensures.cases.0 in
    sym same ∙ c.caller_named-in-Ok.ensures.bad bad
