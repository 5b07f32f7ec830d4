use Rattle.std.proofs.Common.{sym, subst}
use Rattle.wire_requests.specs.Reads.{Reads}
use Rattle.wire_requests.proofs.Bare.{of_kind}
use Rattle.wire_requests.proofs.read.read_lines.Goals as goal

pub returns-in-SetPermanent : goal.returns-in-SetPermanent
returns-in-SetPermanent c =
    λ target are. of_kind c.args.dir.now target c.args.body.now c.args.parameters c.set_permanent.result
    c.in-SetPermanent.is are (c.set_permanent.ensures target)

pub returns-in-SetUserRoot : goal.returns-in-SetUserRoot
returns-in-SetUserRoot c =
    λ target are. of_kind c.args.dir.now target c.args.body.now c.args.parameters c.set_user_root.result
    c.in-SetUserRoot.is are (c.set_user_root.ensures target)

pub returns-in-SetProfile : goal.returns-in-SetProfile
returns-in-SetProfile c =
    λ target are. of_kind c.args.dir.now target c.args.body.now c.args.parameters c.set_profile.result
    c.in-SetProfile.is are (c.set_profile.ensures target)

pub returns-in-AddTemp : goal.returns-in-AddTemp
returns-in-AddTemp c =
    λ target are. of_kind c.args.dir.now target c.args.body.now c.args.parameters c.add_temp.result c.in-AddTemp.is are
    (c.add_temp.ensures target)

pub returns-in-ReplaceRuntime : goal.returns-in-ReplaceRuntime
returns-in-ReplaceRuntime c =
    λ target are. subst (λ k. Reads c.args.dir.now k target c.args.body.now c.replace_runtime.result)
    (sym c.in-ReplaceRuntime.is) (c.replace_runtime.ensures target)

pub returns-in-Collect : goal.returns-in-Collect
returns-in-Collect c =
    λ target are. subst (λ k. Reads c.args.dir.now k target c.args.body.now c.collect.result) (sym c.in-Collect.is)
    (c.collect.ensures c.args.dir.now target)

pub returns-in-Delete : goal.returns-in-Delete
returns-in-Delete c =
    λ target are. subst (λ k. Reads c.args.dir.now k target c.args.body.now c.delete.result) (sym c.in-Delete.is)
    (c.delete.ensures target)
