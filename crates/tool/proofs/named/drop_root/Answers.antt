use Rattle.std.proofs.Common.{Ok, refl}
use Rattle.tool.specs.Requests.{drop_root}
use Rattle.tool.proofs.Requested.{asked_as}
use Rattle.tool.proofs.named.drop_root.Goals as goal

pub returns : goal.returns
returns c =
    let r = drop_root c.args.root.now.root c.args.caller.now c.args.root.now.name.now in
    asked_as (Ok r) r c.in_ok-dropped.field-0 refl c.in_ok-dropped.ensures
