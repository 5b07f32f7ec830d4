use Rattle.std.proofs.Common.{◌≡◌, List, Result, refl, sym, ap, subst, ◌∙◌}
use Rattle.std.proofs.lemmas.Result.{err_from_is_err_and}
use Rattle.std.specs.Prelude.{map}
use Rattle.std.specs.FinMap as finite
use Rattle.std.specs.List.{filter}
use Rattle.paths.specs.Root.{Set, set_of}
use Rattle.model.specs.World.{Pair, pair_cmp}
use Rattle.tables_outline.specs.Outline.{OutlineValue}
use Rattle.tables_outline.proofs.Orders.{pair_total, pair_antisymmetric}
use Rattle.tables_outline.proofs.SetTrees.{set_keys}
use Rattle.tables_outline.specs.Maps.{labelled_bytes, seen_set}
use Rattle.model.specs.Request.{replace_runtime}
use Rattle.model.specs.Reply.{runtime_count}
use Rattle.model.specs.Effects.{valid_pairs, with_runtime}
use Rattle.store_types.specs.declared.replies.Answer.{Answer}
use Rattle.store_types.specs.declared.replies.Answer.TheVariants.{RuntimeCount}
use Rattle.store_types.specs.declared.replies.Stop.{Stop}
use Rattle.store_promises.specs.Meets.{IsMet}
use Rattle.tables_writes.specs.Reasons.{AreAmong, RowsOf}
use Rattle.tables_writes.specs.RowsPut.{RuntimeRow}
use Rattle.store_promises.proofs.Caused.{own_among, write_fails}
use Rattle.store_promises.proofs.Written.{sound_as, met_by_stopping, met_by_writing}
use Rattle.store_promises.proofs.Fits.{no_settings, runtime_fits}
use Rattle.store_roots.proofs.runtime.replace_runtime.Goals as goal

pub replace_runtime-requires : goal.replace_runtime-requires
replace_runtime-requires g c =
    let pairs = map labelled_bytes c.args.pairs.items in
    record {
      sound =
          sound_as g.S.Store c.args.tables.now
          (λ w. with_runtime w (seen_set pair_cmp labelled_bytes c.in_ok-valid.valid.keys))
          (λ w. with_runtime w (valid_pairs w pairs))
          (λ w t. ap (with_runtime w) (c.in_ok-valid.ensures.given no_settings w (t.outline ∙ sym c.outline.ensures)).1)
          (λ w t. runtime_fits c.args.tables.now.dir w t.sound pairs
          (c.in_ok-valid.ensures.given no_settings w (t.outline ∙ sym c.outline.ensures)).0);
    }

pub returns : goal.returns
returns g c s caller =
    let pairs = map labelled_bytes c.args.pairs.items in
    let asked = replace_runtime pairs in
    let keys = c.in_ok-valid.valid.keys in
    let rows = RowsOf RuntimeRow (map labelled_bytes keys) in
    let kept : OutlineValue → List Pair =
    λ o. finite.keys (set_of pair_cmp (filter (λ (p : Pair). finite.contains_key o.objects p.1) pairs)) in
    let same : map labelled_bytes keys ≡ kept c.args.tables.now.outline =
    sym (set_keys pair_cmp labelled_bytes pair_total pair_antisymmetric keys c.count_of-count.ensures.ordered)
    ∙ ap (λ (m : Set pair_cmp). finite.keys m) c.in_ok-valid.ensures.valid ∙ ap kept c.outline.ensures in
    let among = subst (λ ps. AreAmong rows (RowsOf RuntimeRow ps)) same (own_among rows) in
    subst (λ (r : Result Answer Stop). IsMet g.S.Store s caller asked r c.args.tables.now c.replace_runtime.new.self)
    (sym c.answered.ensures)
    (met_by_writing g.S.Store s caller asked c.args.tables.now c.replace_runtime.new.self
    (λ w. with_runtime w (seen_set pair_cmp labelled_bytes c.in_ok-valid.valid.keys))
    (RuntimeCount c.count_of-count.result)
    (λ w is. (c.in_ok-valid.ensures.given s w (is ∙ sym c.outline.ensures)).0)
    (λ w is. ap runtime_count (c.count_of-count.ensures.count
    ∙ ap (λ (m : Set pair_cmp). finite.len m) (c.in_ok-valid.ensures.given s w (is ∙ sym c.outline.ensures)).1))
    (λ w is. ap (with_runtime w) (c.in_ok-valid.ensures.given s w (is ∙ sym c.outline.ensures)).1)
    c.replace_runtime.result c.replace_runtime.ensures.frame
    (write_fails g.S.Store asked c.args.tables.now c.replace_runtime.new.self refl rows among (λ t row put. refl)
    (RuntimeCount c.count_of-count.result) c.replace_runtime.result c.replace_runtime.ensures.cause))

pub returns-in_err-valid : goal.returns-in_err-valid
returns-in_err-valid g c s caller =
    let p = err_from_is_err_and c.from_residual.result c.from_residual.ensures.1 in
    rw (p.1, p.2) (met_by_stopping g.S.Store s caller (replace_runtime (map labelled_bytes c.args.pairs.items))
    c.args.tables.now c.in_err-valid.field-0.0 c.outline.result.now c.outline.ensures
    (λ w is. c.in_err-valid.ensures.given s w is))
