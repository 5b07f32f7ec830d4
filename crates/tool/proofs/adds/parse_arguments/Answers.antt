use Rattle.std.proofs.Common.{◌≡◌, ℕ, List, None, map, ap, subst, ◌∙◌}
use Rattle.std.proofs.lemmas.Result.{IfErr-weaker, IfOk-weaker}
use Rattle.clap.specs.Walk.{texts}
use Rattle.tool_words.specs.Asked.{object_view}
use Rattle.paths.specs.StorePath.{base_of}
use Rattle.tool_pure.specs.Object.{named_fault}
use Rattle.tool_pure.specs.Stream.{IsStopBy}
use Rattle.tool.proofs.Requested.{no_object, object_is}
use Rattle.tool.proofs.adds.parse_arguments.Goals as goal

pub returns-clause-err : goal.returns-clause-err
returns-clause-err c =
    let o = c.args.object.now in
    IfErr-weaker c.parse_object.result _ _ (λ stop is ask bytes. no_object c.args.dir.now (object_view o) stop
    (subst (λ (ts : List (List ℕ)). IsStopBy (named_fault c.args.dir.now o.name.now ts) stop)
    (ap texts c.as_slice.ensures.value) is) ask bytes) c.parse_object.ensures.err

pub returns-clause-ok : goal.returns-clause-ok
returns-clause-ok c =
    let o = c.args.object.now in
    let dir = c.args.dir.now in
    let same = ap texts c.as_slice.ensures.value in
    IfOk-weaker c.parse_object.result _ _
    (λ found is ask. object_is dir (object_view o) found.name found.references.items
    (subst (λ (ts : List (List ℕ)). named_fault dir o.name.now ts ≡ None) same is.0) is.1
    (is.2 ∙ ap (map (base_of dir)) same) ask) c.parse_object.ensures.ok
