use Rattle.std.proofs.Common.{subst}
use Rattle.tables_outline.specs.Links.{AreRemoved, LinksValue}
use Rattle.tables_outline.specs.LinksView.{links_view}
use Rattle.tables_outline.proofs.LinkedObjects.{are_removed, left_sound}
use Rattle.tables_outline.proofs.links.Links.remove_all.Goals as goal

pub invariant_of-self : goal.invariant_of-self
invariant_of-self c =
    left_sound (links_view c.self.inside) c.self.invariant c.args.paths.now c.clear_all.new.held c.keep.new.self
    c.keep-2.new.self c.keep-3.new.self c.clear_all.ensures c.keep.ensures c.keep-2.ensures c.keep-3.ensures

pub returns : goal.returns
returns c =
    let left : LinksValue =
    record {
      names = c.self.inside.names;
      held = c.clear_all.new.held;
      references = c.keep.new.self;
      outputs = c.keep-2.new.self;
      derivers = c.keep-3.new.self;
    } in
    subst (λ (l : LinksValue). AreRemoved l left c.args.paths.now) c.self.view_is
    (are_removed (links_view c.self.inside) c.self.invariant c.args.paths.now c.clear_all.new.held c.keep.new.self
    c.keep-2.new.self c.keep-3.new.self c.clear_all.ensures c.keep.ensures c.keep-2.ensures c.keep-3.ensures)
