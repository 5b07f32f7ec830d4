use Rattle.std.proofs.Common.{◌≤◌, ◌<◌, length, map, option_map, ap, ◌∙◌, arith, inr}
use Rattle.std.proofs.lemmas.List.{length-map}
use Rattle.std.proofs.lemmas.Result.{err_from_is_err_and}
use Rattle.paths.specs.StorePath.{base_of}
use Rattle.tool_pure.specs.declared.stops.Stop.TheVariants.{Refused}
use Rattle.tool_pure.proofs.Objects.{named_stop, no_fault, too_many}
use Rattle.tool_pure.proofs.object.parse_small.Goals as goal

pub returns-in_err-object-clause-err : goal.returns-in_err-object-clause-err
returns-in_err-object-clause-err g c =
    let p = err_from_is_err_and c.from_residual.result c.from_residual.ensures.1 in
    rw (p.1, p.2) (named_stop c.args.dir.now c.args.name.now (map g.S.AsStr.text c.args.references.now) _
    c.in_err-object.ensures.err)

pub returns-then-len-gt-MAX_REFERENCES-clause-err : goal.returns-then-len-gt-MAX_REFERENCES-clause-err
returns-then-len-gt-MAX_REFERENCES-clause-err g c =
    let dir = c.args.dir.now in
    let texts = map g.S.AsStr.text c.args.references.now in
    let found = c.in_ok-object in
    let same = ap length found.ensures.ok.2 ∙ length-map texts (base_of dir) in
    let many : 4096 < length texts =
    omega (arith, c.len.ensures, found.object.references.ok.0, same, c.if-len-gt-MAX_REFERENCES.true) in
    inr (ap (option_map Refused) (too_many dir c.args.name.now texts found.ensures.ok.0 many))

pub returns-clause-ok : goal.returns-clause-ok
returns-clause-ok g c =
    let dir = c.args.dir.now in
    let texts = map g.S.AsStr.text c.args.references.now in
    let found = c.in_ok-object in
    let same = ap length found.ensures.ok.2 ∙ length-map texts (base_of dir) in
    let few : length texts ≤ 4096 =
    omega (arith, c.len.ensures, found.object.references.ok.0, same, c.if-len-gt-MAX_REFERENCES.false) in
    (no_fault dir c.args.name.now texts found.ensures.ok.0 few, found.ensures.ok.1, found.ensures.ok.2)
