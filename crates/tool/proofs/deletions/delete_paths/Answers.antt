use Rattle.std.proofs.Common.{◌≡◌, true, map, ap, inl, inr, refl, sym, ◌∙◌}
use Rattle.std.specs.List.{list_all}
use Rattle.std.proofs.lemmas.List.Folds.{list_all-map}
use Rattle.std.proofs.lemmas.Result.{err_from_is_err_and}
use Rattle.std.proofs.lemmas.Simd.{map-map}
use Rattle.clap.specs.Walk.{texts}
use Rattle.paths.specs.StorePath.{base_of}
use Rattle.model.specs.Request.{delete}
use Rattle.store_types.specs.declared.requests.Request.TheVariants.{Delete}
use Rattle.tool_pure.specs.Object.{is_path_text}
use Rattle.tool.proofs.Requested.{paths_asked, paths_refused}
use Rattle.tool.proofs.deletions.delete_paths.Goals as goal

pub returns : goal.returns
returns c =
    let dir = c.args.dir.now in
    let items = c.args.deletion.now.paths.items in
    let ignores = c.args.deletion.now.ignore_liveness in
    let found = c.in_ok-named.ensures.ok in
    let paths : list_all (is_path_text dir) (texts items) ≡ true =
    list_all-map (is_path_text dir) (λ t. t.now) items
    ∙ ap (list_all (λ t. is_path_text dir t.now)) (sym c.as_slice.ensures.value) ∙ found.1 in
    let bases : c.in_ok-named.named.items ≡ map (base_of dir) (texts items) =
    found.0 ∙ ap (map (λ t. base_of dir t.now)) c.as_slice.ensures.value
    ∙ sym (map-map (base_of dir) (λ t. t.now) items) in
    paths_asked dir (texts items) (λ named. delete named ignores) c.in_ok-named.named.items
    (Delete c.in_ok-named.named ignores) refl bases paths

pub returns-in_err-named : goal.returns-in_err-named
returns-in_err-named c =
    let dir = c.args.dir.now in
    let items = c.args.deletion.now.paths.items in
    let p = err_from_is_err_and c.from_residual.result c.from_residual.ensures.1 in
    rw (p.1, p.2) (paths_refused dir (texts items) (λ named. delete named c.args.deletion.now.ignore_liveness) _
    (elim c.in_err-named.ensures.err [
      | inl memory ↦ inl memory
      | inr bad ↦ inr (
        bad.0,
        list_all-map (is_path_text dir) (λ t. t.now) items
            ∙ ap (list_all (λ t. is_path_text dir t.now)) (sym c.as_slice.ensures.value) ∙ bad.1,
      )
    ]))
