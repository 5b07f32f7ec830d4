use Rattle.std.proofs.Common.{refl, sym, ap, ◌∙◌}
use Rattle.std.proofs.lemmas.Result.{IfOk-weaker}
use Rattle.live.specs.Arguments.{roots_view}
use Rattle.live.specs.Keeping.{keep_view}
use Rattle.model.specs.Seen.{seen}
use Rattle.model.specs.World.{roots_of}
use Rattle.tables_outline.specs.Rooted.{rooted}
use Rattle.store_reach.proofs.Places.{keeping_reported}
use Rattle.store_reach.proofs.reaching_roots.seen_roots_of.Goals as goal

pub returns : goal.returns
returns c =
    let o = c.in_ok-all.all.outline.now in
    IfOk-weaker c.seen.result _ _
    (λ v e w is. e ∙ ap (seen c.args.class) (ap roots_view c.deref.ensures.value ∙ c.in_ok-reaching.ensures
    ∙ keeping_reported c.args.config.now o (keep_view c.keep_of.result) (roots_of (rooted o)) c.args.path.now
    c.keep_of.ensures refl w (is ∙ sym c.in_ok-all.ensures)))
    c.seen.ensures
