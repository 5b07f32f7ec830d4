use Rattle.std.proofs.Common.{◌≡◌, length, sym, ap, ◌∙◌, rules, tests}
use Rattle.std.specs.List.{filter}
use Rattle.std.specs.FinMap as finite
use Rattle.std.proofs.lemmas.Iterator.Consumers.{YieldsList-from_rest, YieldsList-from_filter, count_from_yields_List}
use Rattle.model.specs.World.{temporary_cmp}
use Rattle.tables_outline.specs.Maps.{temporary_bytes}
use Rattle.tables_outline.specs.Outline.{OutlineValue}
use Rattle.model.specs.Effects.{is_of_session}
use Rattle.tables_outline.specs.Temporary.{entries_of_session}
use Rattle.tables_outline.proofs.Orders.{temporary_total, temporary_antisymmetric}
use Rattle.tables_outline.proofs.SetTrees.{SessionEntry, temporary_sorted}
use Rattle.tables_outline.proofs.SessionTrees.{keys_counted}
use Rattle.tables_outline.proofs.outline.Outline.session_len.Goals as goal

pub returns : goal.returns
returns c =
    let keys = c.self.inside.temporary.keys in
    let owner = c.args.owner.now in
    let session = c.args.session in
    let own = λ (k : SessionEntry). is_of_session owner session (temporary_bytes k) in
    let counted : c.count.result ≡ length (filter own keys) =
    count_from_yields_List c.filter.result c.count.result c.count.ensures.ran
    (YieldsList-from_filter _ own (YieldsList-from_rest keys cc) c.filter.ensures.closure
    (λ x r q k. search (rules, tests))) in
    counted
    ∙ sym (keys_counted temporary_cmp temporary_bytes temporary_total temporary_antisymmetric
    (is_of_session owner session) keys (temporary_sorted keys c.len-count.ensures.ordered))
    ∙ ap (λ (o : OutlineValue). finite.len (entries_of_session owner session o.temporary)) c.self.view_is
