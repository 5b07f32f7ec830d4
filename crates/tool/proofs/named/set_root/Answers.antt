use Rattle.tool.specs.Requests.{on_path, set_root}
use Rattle.tool.proofs.Requested.{asked_as, path_is}
use Rattle.tool.proofs.named.set_root.Goals as goal

pub returns : goal.returns
returns c =
    let ask = set_root c.args.root.now.kind c.args.caller.now c.args.root.now.name.now in
    let path = c.in_ok-path in
    asked_as (on_path c.args.dir.now c.args.root.now.path.now ask) (ask path.path) c.in_ok-root_at.field-0
    (path_is c.args.dir.now c.args.root.now.path.now ask path.path path.ensures.ok.0 path.ensures.ok.1)
    c.in_ok-root_at.ensures
