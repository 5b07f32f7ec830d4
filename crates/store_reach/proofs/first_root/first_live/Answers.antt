use Rattle.std.proofs.Common.{Some, is_some, option_map, refl, sym, ap, ◌∙◌}
use Rattle.live.specs.Arguments.{root_view as lent_view}
use Rattle.live.specs.Keeping.{keep_view}
use Rattle.model.specs.Seen.{seen_root}
use Rattle.model.specs.World.{roots_of}
use Rattle.tables_outline.specs.Rooted.{rooted}
use Rattle.store_reach.proofs.FirstLive.{first_living, first_reported, some_living}
use Rattle.store_reach.proofs.first_root.first_live.Goals as goal

pub returns-in_default-clause-root : goal.returns-in_default-clause-root
returns-in_default-clause-root c w reported =
    ap (option_map (seen_root c.args.class))
    (ap (option_map lent_view) (sym c.in_default.is) ∙ c.in_ok-first.ensures
    ∙ first_reported c.args.config.now c.in_ok-all.all.outline.now (keep_view c.keep_of.result)
    (roots_of (rooted c.in_ok-all.all.outline.now)) c.args.named.now c.keep_of.ensures refl w
    (reported ∙ sym c.in_ok-all.ensures)
    ∙ first_living c.args.config.now w c.args.named.now)

pub returns-in_default-clause-lives : goal.returns-in_default-clause-lives
returns-in_default-clause-lives c w reported =
    ap is_some (ap (option_map lent_view) (sym c.in_default.is) ∙ c.in_ok-first.ensures
    ∙ first_reported c.args.config.now c.in_ok-all.all.outline.now (keep_view c.keep_of.result)
    (roots_of (rooted c.in_ok-all.all.outline.now)) c.args.named.now c.keep_of.ensures refl w
    (reported ∙ sym c.in_ok-all.ensures))
    ∙ some_living c.args.config.now w c.args.named.now

pub returns-clause-root : goal.returns-clause-root
returns-clause-root c w reported =
    ap Some c.in_ok-shown.ensures ∙ ap (option_map (seen_root c.args.class))
    (ap (option_map lent_view) (sym c.in-Some.is) ∙ c.in_ok-first.ensures
    ∙ first_reported c.args.config.now c.in_ok-all.all.outline.now (keep_view c.keep_of.result)
    (roots_of (rooted c.in_ok-all.all.outline.now)) c.args.named.now c.keep_of.ensures refl w
    (reported ∙ sym c.in_ok-all.ensures)
    ∙ first_living c.args.config.now w c.args.named.now)

pub returns-clause-lives : goal.returns-clause-lives
returns-clause-lives c w reported =
    ap is_some (ap (option_map lent_view) (sym c.in-Some.is) ∙ c.in_ok-first.ensures
    ∙ first_reported c.args.config.now c.in_ok-all.all.outline.now (keep_view c.keep_of.result)
    (roots_of (rooted c.in_ok-all.all.outline.now)) c.args.named.now c.keep_of.ensures refl w
    (reported ∙ sym c.in_ok-all.ensures))
    ∙ some_living c.args.config.now w c.args.named.now
