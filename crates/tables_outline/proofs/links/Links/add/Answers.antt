use Rattle.std.proofs.Common.{subst}
use Rattle.std.specs.Prelude.{option_map}
use Rattle.live.specs.Graph.{Links}
use Rattle.tables_outline.specs.Links.{IsAdded, LinksValue}
use Rattle.tables_outline.specs.LinksView.{links_view}
use Rattle.tables_outline.proofs.LinkedObjects.{added_sound, is_added, ready_first, ready_last, ready_second}
use Rattle.tables_outline.proofs.links.Links.add.Goals as goal

pub invariant_of-result : goal.invariant_of-result
invariant_of-result c =
    let old = links_view c.self.inside in
    let links : Links =
    record {
      references = c.args.references.now;
      outputs = c.args.outputs.now;
      deriver = option_map (λ p. p.now) c.args.deriver;
    } in
    let ready =
    ready_first old c.self.invariant c.args.path.now c.number.new.self c.in_ok-source.source
    c.in_ok-source.ensures.names c.in_ok-source.ensures.number in
    let one = c.in_ok-link_all.ensures ready in
    let two =
    c.in_ok-link_all-2.ensures (ready_second old c.self.invariant c.args.path.now c.number.new.self
    c.in_ok-source.source c.in_ok-source.ensures.names c.in_ok-source.ensures.number c.link_all.new.names
    c.link_all.new.lists c.args.references.now one) in
    let three =
    c.in_ok-link_if.ensures (ready_last old c.self.invariant c.args.path.now c.number.new.self c.in_ok-source.source
    c.in_ok-source.ensures.names c.in_ok-source.ensures.number c.link_all.new.names c.link_all.new.lists
    c.args.references.now one c.link_all-2.new.names c.link_all-2.new.lists c.args.outputs.now two) in
    added_sound old c.self.invariant c.args.path.now links c.number.new.self c.link_all.new.names c.link_all-2.new.names
    c.link_if.new.names c.set.new.self
    c.link_all.new.lists c.link_all-2.new.lists c.link_if.new.lists c.in_ok-source.source c.in_ok-source.ensures.names
    c.in_ok-source.ensures.number c.in_ok-set.ensures one two three

pub returns : goal.returns
returns c =
    let old = links_view c.self.inside in
    let links : Links =
    record {
      references = c.args.references.now;
      outputs = c.args.outputs.now;
      deriver = option_map (λ p. p.now) c.args.deriver;
    } in
    let ready =
    ready_first old c.self.invariant c.args.path.now c.number.new.self c.in_ok-source.source
    c.in_ok-source.ensures.names c.in_ok-source.ensures.number in
    let one = c.in_ok-link_all.ensures ready in
    let two =
    c.in_ok-link_all-2.ensures (ready_second old c.self.invariant c.args.path.now c.number.new.self
    c.in_ok-source.source c.in_ok-source.ensures.names c.in_ok-source.ensures.number c.link_all.new.names
    c.link_all.new.lists c.args.references.now one) in
    let three =
    c.in_ok-link_if.ensures (ready_last old c.self.invariant c.args.path.now c.number.new.self c.in_ok-source.source
    c.in_ok-source.ensures.names c.in_ok-source.ensures.number c.link_all.new.names c.link_all.new.lists
    c.args.references.now one c.link_all-2.new.names c.link_all-2.new.lists c.args.outputs.now two) in
    let all : LinksValue =
    record {
      names = c.link_if.new.names;
      held = c.set.new.self;
      references = c.link_all.new.lists;
      outputs = c.link_all-2.new.lists;
      derivers = c.link_if.new.lists;
    } in
    subst (λ (l : LinksValue). IsAdded l all c.args.path.now links) c.self.view_is
    (is_added old c.self.invariant c.args.path.now links c.number.new.self c.link_all.new.names c.link_all-2.new.names
    c.link_if.new.names c.set.new.self
    c.link_all.new.lists c.link_all-2.new.lists c.link_if.new.lists c.in_ok-source.source c.in_ok-source.ensures.names
    c.in_ok-source.ensures.number c.in_ok-set.ensures one two three)
