use Rattle.std.proofs.Common.{◌≡◌, ◌∙◌, IfOk, [], true, refl, ap, subst}
use Rattle.std.specs.Prelude.{map}
use Rattle.matchit.proofs.OnLiterals.{matchit_on_literals}
use Rattle.wire_requests.specs.Rows.{AreRows, can_add_all, row_of, rows}
use Rattle.wire_requests.specs.Table.{routes}
use Rattle.wire_requests.proofs.router.make_router.Goals as goal

can_all : can_add_all [] routes ≡ true
unfolding routes matchit_on_literals
can_all = refl

same : map row_of routes ≡ rows
unfolding rows
same = refl

pub router_of-requires : goal.router_of-requires
router_of-requires c = ap (λ rows. can_add_all [] rows) c.rows.ensures ∙ can_all

pub returns : goal.returns
returns c =
    subst (λ rows. IfOk c.router_of.result (λ router. AreRows router rows)) (ap (map row_of) c.rows.ensures ∙ same)
    c.router_of.ensures
