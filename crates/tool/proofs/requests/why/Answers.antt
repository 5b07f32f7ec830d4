use Rattle.std.proofs.Common.{refl}
use Rattle.model.specs.Request as request
use Rattle.store_types.specs.declared.requests.Request.TheVariants.{RootsOf}
use Rattle.tool.proofs.Requested.{path_asked}
use Rattle.tool.proofs.requests.why.Goals as goal

pub returns : goal.returns
returns c =
    path_asked c.args.dir.now c.args.text.now request.list_roots_of c.in_ok-path.path (RootsOf c.in_ok-path.path) refl
    c.in_ok-path.ensures.ok.0 c.in_ok-path.ensures.ok.1
