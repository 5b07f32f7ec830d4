use Rattle.live.proofs.Placed.{not_placed, placed}
use Rattle.live.proofs.Searching.{searched_none}
use Rattle.live.proofs.numbered.places.place_of.Goals as goal

pub place_between-requires : goal.place_between-requires
place_between-requires c = searched_none c.args.rows.now c.requires c.args.path.now

pub returns-clause-found : goal.returns-clause-found
returns-clause-found c =
    placed c.args.rows.now c.requires c.args.path.now c.place_between.result c.place_between.ensures

pub returns-clause-none : goal.returns-clause-none
returns-clause-none c =
    not_placed c.args.rows.now c.requires c.args.path.now c.place_between.result c.place_between.ensures
