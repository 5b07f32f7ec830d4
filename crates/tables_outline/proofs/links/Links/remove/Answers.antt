use Rattle.std.proofs.Common.{sym, subst}
use Rattle.std.specs.Prelude.{option_map}
use Rattle.live.specs.Graph.{Links}
use Rattle.tables_outline.specs.Links.{IsRemoved, LinksValue}
use Rattle.tables_outline.specs.LinksView.{links_view}
use Rattle.tables_outline.proofs.LinkedObjects.{is_removed, nothing_removed, removed_sound}
use Rattle.tables_outline.proofs.links.Links.remove.Goals as goal

pub invariant_of-self : goal.invariant_of-self
invariant_of-self c =
    let links : Links =
    record {
      references = c.args.references.now;
      outputs = c.args.outputs.now;
      deriver = option_map (λ p. p.now) c.args.deriver;
    } in
    removed_sound (links_view c.self.inside) c.self.invariant c.args.path.now links c.clear.new.self
    c.unlink_all.new.lists c.unlink_all-2.new.lists c.unlink_if.new.lists c.in-Some.source (sym c.in-Some.ensures)
    c.unlink_all.ensures c.unlink_all-2.ensures c.unlink_if.ensures c.clear.ensures

pub returns : goal.returns
returns c =
    let links : Links =
    record {
      references = c.args.references.now;
      outputs = c.args.outputs.now;
      deriver = option_map (λ p. p.now) c.args.deriver;
    } in
    let left : LinksValue =
    record {
      names = c.self.inside.names;
      held = c.clear.new.self;
      references = c.unlink_all.new.lists;
      outputs = c.unlink_all-2.new.lists;
      derivers = c.unlink_if.new.lists;
    } in
    subst (λ (l : LinksValue). IsRemoved l left c.args.path.now links) c.self.view_is
    (is_removed (links_view c.self.inside) c.self.invariant c.args.path.now links c.clear.new.self
    c.unlink_all.new.lists c.unlink_all-2.new.lists c.unlink_if.new.lists c.in-Some.source (sym c.in-Some.ensures)
    c.unlink_all.ensures c.unlink_all-2.ensures c.unlink_if.ensures c.clear.ensures)

pub returns-in_default : goal.returns-in_default
returns-in_default c =
    let links : Links =
    record {
      references = c.args.references.now;
      outputs = c.args.outputs.now;
      deriver = option_map (λ p. p.now) c.args.deriver;
    } in
    subst (λ (l : LinksValue). IsRemoved l l c.args.path.now links) c.self.view_is
    (nothing_removed (links_view c.self.inside) c.self.invariant c.args.path.now links (sym c.in_default.ensures))
