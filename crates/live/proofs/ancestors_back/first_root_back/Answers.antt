use Rattle.std.proofs.Common.{◌<◌, length, subst, sym}
use Rattle.std.specs.Prelude.{All}
use Rattle.live.specs.Keeping.{keep_view}
use Rattle.live.proofs.Named.{first_is, one_named, only}
use Rattle.live.proofs.ancestors_back.first_root_back.Goals as goal

pub walk_back-requires : goal.walk_back-requires
walk_back-requires g c = one_named c.args.place (length (g.S.Sources.entries c.args.links.now)) c.requires.place

pub first_root-requires : goal.first_root-requires
first_root-requires g c =
    subst (λ n. All (λ t. t < n) c.args.roots.now) (sym c.in_ok-reaching.ensures.places.backward.count)
    c.requires.targets

pub returns : goal.returns
returns g c graph name given are ordered aimed valid =
    first_is (keep_view c.args.keep) graph (g.S.Sources.entries c.args.links.now) name c.args.place
    c.in_ok-reaching.reaching (c.in_ok-reaching.ensures.paths graph name are (only graph name c.args.place valid))
    given c.args.roots.now aimed c.requires.targets ordered c.first_root.result c.first_root.ensures
