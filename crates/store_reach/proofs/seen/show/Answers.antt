use Rattle.std.proofs.Common.{[], ◌∷◌, ◌++◌, map, not, sym, ap, ◌∙◌, subst}
use Rattle.std.specs.Prelude.{if◌then◌else◌}
use Rattle.live.specs.Arguments.{root_view}
use Rattle.tables_outline.specs.Maps.{labelled_bytes}
use Rattle.store_reach.specs.Unique.{AreListed}
use Rattle.tables_outline.proofs.Loops.{map-append}
use Rattle.store_reach.proofs.Shown.{seen_again, seen_more}
use Rattle.store_reach.proofs.seen.show.Goals as goal

pub returns-in_ok-push-clause-shown : goal.returns-in_ok-push-clause-shown
returns-in_ok-push-clause-shown c = λ before are shown.
    ap (map labelled_bytes) c.in_ok-push.ensures.items
    ∙ map-append labelled_bytes c.args.shown.now.items (c.in_ok-pair.pair ∷ [])
    ∙ seen_more c.args.class before (root_view c.args.root) (map labelled_bytes c.args.shown.now.items)
    (labelled_bytes c.in_ok-pair.pair) shown c.in_ok-pair.ensures
    (ap not (sym c.if-is_first.true) ∙ c.in_ok-is_first.ensures.first c.args.shown.now.items are)

pub returns-else-is_first-clause-reported : goal.returns-else-is_first-clause-reported
returns-else-is_first-clause-reported c = λ are.
    subst (λ b. AreListed c.args.class c.note.new.reported.keys
    (if b then c.args.shown.now.items ++ c.in_ok-pair.pair ∷ [] else c.args.shown.now.items)) c.if-is_first.false
    (c.in_ok-is_first.ensures.reported c.args.shown.now.items are)

pub returns-else-is_first-clause-shown : goal.returns-else-is_first-clause-shown
returns-else-is_first-clause-shown c = λ before are shown.
    seen_again c.args.class before (root_view c.args.root) (map labelled_bytes c.args.shown.now.items)
    (labelled_bytes c.in_ok-pair.pair) shown c.in_ok-pair.ensures
    (ap not (sym c.if-is_first.false) ∙ c.in_ok-is_first.ensures.first c.args.shown.now.items are)
