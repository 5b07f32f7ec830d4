use Rattle.std.proofs.Common.{refl}
use Rattle.model.specs.Request as request
use Rattle.store_types.specs.declared.requests.Request.TheVariants.{Nar}
use Rattle.tool.proofs.Requested.{path_asked}
use Rattle.tool.proofs.requests.cat_nar.Goals as goal

pub returns : goal.returns
returns c =
    path_asked c.args.dir.now c.args.text.now request.nar c.in_ok-path.path (Nar c.in_ok-path.path) refl
    c.in_ok-path.ensures.ok.0 c.in_ok-path.ensures.ok.1
