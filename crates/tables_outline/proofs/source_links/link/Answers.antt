use Rattle.tables_outline.proofs.Held.{link_one}
use Rattle.tables_outline.proofs.source_links.link.Goals as goal

pub returns : goal.returns
returns c ready =
    link_one c.args.names.now c.args.lists.now c.push.new.self c.args.target.now c.args.source c.in_ok-number.number
    c.number.new.self
    c.in_ok-number.ensures.names ready.inside ready.source c.in_ok-number.ensures.number c.in_ok-push.ensures
