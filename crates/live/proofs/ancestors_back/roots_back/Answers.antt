use Rattle.std.proofs.Common.{◌<◌, length, subst, sym}
use Rattle.std.specs.Prelude.{All}
use Rattle.live.specs.Keeping.{keep_view}
use Rattle.live.proofs.Named.{one_named, only, roots_are, roots_found}
use Rattle.live.proofs.ancestors_back.roots_back.Goals as goal

pub walk_back-requires : goal.walk_back-requires
walk_back-requires g c = one_named c.args.place (length (g.S.Sources.entries c.args.links.now)) c.requires.place

pub roots-requires : goal.roots-requires
roots-requires g c =
    subst (λ n. All (λ t. t < n) c.args.roots.now) (sym c.in_ok-reaching.ensures.places.backward.count)
    c.requires.targets

pub returns-clause-places : goal.returns-clause-places
returns-clause-places g c graph name given are aimed valid =
    roots_found (keep_view c.args.keep) graph (g.S.Sources.entries c.args.links.now) name c.args.place
    c.in_ok-reaching.reaching (c.in_ok-reaching.ensures.paths graph name are (only graph name c.args.place valid))
    given c.args.roots.now aimed c.requires.targets c.in_ok-found.found.items c.in_ok-found.ensures

pub returns-clause-roots : goal.returns-clause-roots
returns-clause-roots g c graph name given are aimed valid =
    roots_are (keep_view c.args.keep) graph (g.S.Sources.entries c.args.links.now) name c.args.place
    c.in_ok-reaching.reaching (c.in_ok-reaching.ensures.paths graph name are (only graph name c.args.place valid))
    given c.args.roots.now aimed c.requires.targets c.in_ok-found.found.items c.in_ok-found.ensures
