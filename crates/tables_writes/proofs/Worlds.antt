-- Tables that are open over a clean disk have a world: the one of their rows.
use Rattle.std.proofs.Common.{refl}
use Rattle.sqlite_trees.specs.declared.store.Store.{Ghosts}
use Rattle.sqlite.specs.Held.{state}
use Rattle.tables_sql.specs.Contents.{contents_of}
use Rattle.tables_world.specs.Worlds.{world_in}
use Rattle.tables_writes.specs.TablesValue.{HaveAWorld}

pub have_a_world : {S : Type 0} (g : Ghosts S) → HaveAWorld g
have_a_world g k agrees clean up =
    let rows = agrees.rows clean up in (
      world_in (contents_of (state g k.connection).now),
      record { outline = rows.same; rows = λ _ _. refl; sound = rows.sound.world },
    )
