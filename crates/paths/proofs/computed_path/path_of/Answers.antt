use Rattle.std.proofs.Common.{IfOk, rules}
use Rattle.std.proofs.lemmas.Result.{IfOk-weaker}
use Rattle.paths.specs.Path.{IsPathOf}
use Rattle.paths.proofs.PathOrder.{path_of-is}
use Rattle.paths.proofs.computed_path.path_of.Goals as goal

pub returns-clause-value : goal.returns-clause-value
returns-clause-value c =
    let fits : IfOk c.join.result (λ p. IsPathOf c.args.kind.now c.args.dir.now c.args.name.now c.args.refs.now
    c.args.inner.now p) = search rules in
    IfOk-weaker c.join.result _ _ (path_of-is _ _ _ _ _) fits
