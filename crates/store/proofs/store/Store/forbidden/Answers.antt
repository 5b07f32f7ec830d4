use Rattle.std.proofs.Common.{◌≡◌, Some, None, option_map, sym, ap, ap₂, subst, ◌∙◌}
use Rattle.policy.specs.Class.{class_of}
use Rattle.policy.specs.Rules.{first_broken}
use Rattle.policy.specs.Operation.{Operation}
use Rattle.policy.specs.declared.kinds.Class.{Class}
use Rattle.policy.specs.declared.kinds.Rule.{Rule}
use Rattle.model.specs.Reply.{Reply, denied}
use Rattle.model.specs.Verdict.{operation_of}
use Rattle.tables_outline.specs.Maps.{labelled_bytes}
use Rattle.tables_writes.specs.TablesValue.{HasWorld}
use Rattle.store_reach.specs.Found.{IsDenial}
use Rattle.store_types.specs.View.{request_view}
use Rattle.store.specs.View.{StoreView}
use Rattle.store.proofs.Replied.{forbidden_by, forbidden_living, forbidden_failing}
use Rattle.store.proofs.store.Store.forbidden.Goals as goal

pub returns-in-Some-clause-reported : goal.returns-in-Some-clause-reported
returns-in-Some-clause-reported g c is w t =
    let q = request_view c.args.request.now in
    let broken : first_broken (class_of c.args.self.now.settings c.args.caller.now) c.args.caller.now (operation_of q)
    ≡ Some c.in-Some.rule =
    sym (c.in-Some.ensures ∙ ap₂ (λ (class : Class) (op : Operation). first_broken class c.args.caller.now op) is
    c.operation.ensures) in
    forbidden_by g.S.Store c.args.self.now.settings c.args.caller.now q c.in-Some.rule broken w

pub returns-in-Ok-Some-clause-reported : goal.returns-in-Ok-Some-clause-reported
returns-in-Ok-Some-clause-reported g c is w t =
    let q = request_view c.args.request.now in
    let allowed : first_broken (class_of c.args.self.now.settings c.args.caller.now) c.args.caller.now (operation_of q)
    ≡ None =
    sym (c.in_default.ensures ∙ ap₂ (λ (class : Class) (op : Operation). first_broken class c.args.caller.now op) is
    c.operation.ensures) in
    let reported = rw c.in-Ok-Some.field-0-is at c.in-Ok-Some.ensures.root in
    let living =
    subst (λ (st : StoreView g.row.S.Denot). c.args.class ≡ class_of st.settings c.args.caller.now
    → HasWorld g.S.Store st.tables w → IsDenial st.settings w c.args.caller.now q (Some c.in-Ok-Some.root))
    c.self.view_is
    (λ is t. reported w c.args.caller.now (t.outline ∙ sym c.outline.ensures) is) in
    forbidden_living g.S.Store c.args.self.now.settings c.args.caller.now q (labelled_bytes c.in-Ok-Some.root) w allowed
    (living is t)

pub returns-in-Err-clause-reported : goal.returns-in-Err-clause-reported
returns-in-Err-clause-reported g c is w t =
    let q = request_view c.args.request.now in
    let allowed : first_broken (class_of c.args.self.now.settings c.args.caller.now) c.args.caller.now (operation_of q)
    ≡ None =
    sym (c.in_default.ensures ∙ ap₂ (λ (class : Class) (op : Operation). first_broken class c.args.caller.now op) is
    c.operation.ensures) in
    forbidden_failing g.S.Store c.args.self.now.settings c.args.caller.now q allowed w

pub returns-in-Ok-None-clause-reported : goal.returns-in-Ok-None-clause-reported
returns-in-Ok-None-clause-reported g c is w t =
    let q = request_view c.args.request.now in
    let allowed : first_broken (class_of c.args.self.now.settings c.args.caller.now) c.args.caller.now (operation_of q)
    ≡ None =
    sym (c.in_default.ensures ∙ ap₂ (λ (class : Class) (op : Operation). first_broken class c.args.caller.now op) is
    c.operation.ensures) in
    let reported = rw c.in-Ok-None.field-0-is at c.in-Ok-None.ensures.root in
    let dead =
    subst (λ (st : StoreView g.row.S.Denot). c.args.class ≡ class_of st.settings c.args.caller.now
    → HasWorld g.S.Store st.tables w → IsDenial st.settings w c.args.caller.now q None) c.self.view_is
    (λ is t. reported w c.args.caller.now (t.outline ∙ sym c.outline.ensures) is) in
    (allowed, dead is t)

-- ---- by the rules alone

abbrev denial_by : Rule → Reply
denial_by rule = denied rule None

pub returns-in-Some-clause-ruled : goal.returns-in-Some-clause-ruled
returns-in-Some-clause-ruled g c is none =
    let broken : first_broken (class_of c.args.self.now.settings c.args.caller.now) c.args.caller.now
    (operation_of (request_view c.args.request.now)) ≡ Some c.in-Some.rule =
    sym (c.in-Some.ensures ∙ ap₂ (λ (class : Class) (op : Operation). first_broken class c.args.caller.now op) is
    c.operation.ensures) in
    ap (option_map denial_by) (sym broken)

pub returns-in-Ok-Some-clause-ruled : goal.returns-in-Ok-Some-clause-ruled
returns-in-Ok-Some-clause-ruled g c is none =
    let reported = rw c.in-Ok-Some.field-0-is at (c.in-Ok-Some.ensures.unnamed none) in
    let no : ⊥ = cc in
    absurd no

pub returns-in-Err-clause-ruled : goal.returns-in-Err-clause-ruled
returns-in-Err-clause-ruled g c is none =
    let reported = c.in-Err.ensures.unnamed none in
    let no : ⊥ = cc in
    absurd no

pub returns-in-Ok-None-clause-ruled : goal.returns-in-Ok-None-clause-ruled
returns-in-Ok-None-clause-ruled g c is none =
    let allowed : first_broken (class_of c.args.self.now.settings c.args.caller.now) c.args.caller.now
    (operation_of (request_view c.args.request.now)) ≡ None =
    sym (c.in_default.ensures ∙ ap₂ (λ (class : Class) (op : Operation). first_broken class c.args.caller.now op) is
    c.operation.ensures) in
    ap (option_map denial_by) (sym allowed)
