use Rattle.std.proofs.Common.{ap, ◌∙◌}
use Rattle.std.specs.Prelude.{codes}
use Rattle.std.proofs.lemmas.Result.{IfOk-weaker}
use Rattle.paths.specs.Path as spec
use Rattle.paths.specs.Path.{path_of}
use Rattle.paths.proofs.computed_path.source_path_of.Goals as goal

pub returns-clause-value : goal.returns-clause-value
unfolding spec.source_path
returns-clause-value c = λ made_of is.
    let dir = c.args.dir.now in
    let refs = c.args.refs.now in
    IfOk-weaker c.path_of.result _ _
    (λ p h. h ∙ ap (λ n. path_of (codes "source") dir n refs c.args.nar_hash.now) c.as_str.ensures.value
    ∙ ap (path_of (codes "source") dir c.args.name.now refs) is) c.path_of.ensures.value
