use Rattle.std.proofs.Common.{map, Some, Err, option_map, ap, sym, ◌∙◌, inl, inr}
use Rattle.std.proofs.lemmas.List.Folds.{list_all-map}
use Rattle.std.proofs.lemmas.Result.{err_from_is_err_and}
use Rattle.std.proofs.lemmas.Simd.{map-map}
use Rattle.paths.specs.StorePath.{base_of}
use Rattle.tool_pure.specs.declared.stops.Stop.TheVariants.{Refused}
use Rattle.tool_pure.specs.Object.{is_path_text}
use Rattle.tool_pure.proofs.Objects.{bad_name, bad_path, no_named}
use Rattle.tool_pure.proofs.object.parse_object.Goals as goal

pub returns-in_err-name-clause-err : goal.returns-in_err-name-clause-err
returns-in_err-name-clause-err g c =
    let p = err_from_is_err_and c.from_residual.result c.from_residual.ensures.1 in
    rw (p.1, p.2) (bad_name c.args.dir.now c.args.name.now _ _ (λ is. c.in_err-name.ensures.bad.0 (ap (λ e. Err e) is)))

pub returns-in_err-references-clause-err : goal.returns-in_err-references-clause-err
returns-in_err-references-clause-err g c =
    let dir = c.args.dir.now in
    let texts = map g.S.AsStr.text c.args.references.now in
    let p =
    err_from_is_err_and c.from_residual-in_err-references.result c.from_residual-in_err-references.ensures.1 in
    rw (p.1, p.2) (elim c.in_err-references.ensures.err [
      | inl memory ↦ inl memory
      | inr bad ↦ inr (ap (option_map Refused)
          (bad_path dir c.args.name.now texts c.in_ok-name.ensures.ok.1
          (list_all-map (is_path_text dir) g.S.AsStr.text c.args.references.now ∙ bad.1))
          ∙ ap Some (sym bad.0))
    ])

pub returns-clause-ok : goal.returns-clause-ok
returns-clause-ok g c =
    let dir = c.args.dir.now in
    let texts = map g.S.AsStr.text c.args.references.now in
    let found = c.in_ok-references in
    let paths = list_all-map (is_path_text dir) g.S.AsStr.text c.args.references.now ∙ found.ensures.ok.1 in
    let bases = found.ensures.ok.0 ∙ sym (map-map (base_of dir) g.S.AsStr.text c.args.references.now) in
    (no_named dir c.args.name.now texts c.in_ok-name.ensures.ok.1 paths, c.in_ok-name.ensures.ok.0, bases)
