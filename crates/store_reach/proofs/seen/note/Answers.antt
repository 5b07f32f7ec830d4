use Rattle.std.proofs.Common.{◌≡◌, rules, map, sym, ap, ◌∙◌}
use Rattle.model.specs.World.{pair_cmp}
use Rattle.tables_outline.specs.Maps.{labelled_bytes}
use Rattle.tables_outline.specs.Gaining.{has_tied}
use Rattle.store_reach.proofs.Noted.{noted_first, noted}
use Rattle.store_reach.proofs.seen.note.Goals as goal

pub returns-clause-first : goal.returns-clause-first
returns-clause-first c = λ shown are.
    let same_as : labelled_bytes (c.in_ok-label.label, c.in_ok-target.target) ≡ labelled_bytes c.args.pair.now =
    search rules in
    noted_first c.args.class c.args.reported.now.keys (c.in_ok-label.label, c.in_ok-target.target) c.args.pair.now shown
    same_as (sym c.is_trusted.ensures ∙ c.if-is_trusted.false) are
    c.in_ok-is_first.is_first c.in_ok-is_first.ensures.added

pub returns-clause-reported : goal.returns-clause-reported
returns-clause-reported c = λ shown are.
    let same_as : labelled_bytes (c.in_ok-label.label, c.in_ok-target.target) ≡ labelled_bytes c.args.pair.now =
    search rules in
    λ stranger q. ap (λ ks. has_tied pair_cmp q (map labelled_bytes ks)) c.in_ok-is_first.ensures.keys
    ∙ noted c.args.class c.args.reported.now.keys (c.in_ok-label.label, c.in_ok-target.target) c.args.pair.now shown
    same_as stranger are c.in_ok-is_first.is_first c.in_ok-is_first.ensures.added stranger q
