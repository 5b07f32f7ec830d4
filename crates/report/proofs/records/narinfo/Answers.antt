use Rattle.std.proofs.Common.{ap, ◌∙◌}
use Rattle.store_types.specs.View.{info_view}
use Rattle.report.specs.Narinfo.{narinfo}
use Rattle.report.proofs.Joined.{with}
use Rattle.report.proofs.records.narinfo.Goals as goal

pub returns : goal.returns
returns c =
    let dir = c.args.dir.now in
    let info = info_view c.args.info.now in
    with _ _ _ _ c.in_ok-push_ca.ensures
    (with _ _ _ _ c.in_ok-push_deriver.ensures
    (with _ _ _ _ c.in_ok-push_references.ensures
    (with _ _ _ _ c.in_ok-push_size-2.ensures
    (with _ _ _ _ c.in_ok-push_digest-2.ensures
    (with _ _ _ _ c.in_ok-push_size.ensures
    (with _ _ _ _ c.in_ok-push_digest.ensures
    (with _ _ _ _ c.in_ok-push_line.ensures
    (with _ _ _ _ c.in_ok-push_address.ensures
    (with _ _ _ _ c.in_ok-push_path_of.ensures c.new-text.ensures.bytes)))))))))
    ∙ ap (λ d. narinfo dir (record info { references = c.deref.result.now; deriver = d })) c.as_ref.ensures.value
    ∙ ap (λ refs. narinfo dir (record info { references = refs })) c.deref.ensures.value
