use Rattle.std.proofs.Common.{◌≡◌, subst}
use Rattle.policy.specs.Caller.{Caller}
use Rattle.policy.specs.Class.{class_of}
use Rattle.store_types.specs.View.{request_view}
use Rattle.store_promises.specs.Meets.{IsMet}
use Rattle.store.specs.View.{StoreView}
use Rattle.store.proofs.store.Store.act.Goals as goal

pub returns-clause-met : goal.returns-clause-met
returns-clause-met g c =
    subst (λ (st : StoreView g.row.S.Denot). (caller : Caller) → c.args.class ≡ class_of st.settings caller
    → IsMet g.S.Store st.settings caller (request_view c.args.request) c.act.result st.tables c.act.new.tables)
    c.self.view_is c.act.ensures.met
