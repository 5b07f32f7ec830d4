-- What a change of the roots makes of the world.
use Rattle.std.proofs.Common.{◌≡◌, ℕ, List, refl}
use Rattle.std.specs.FinMap as finite
use Rattle.sqlite_trees.specs.declared.store.Store.{Ghosts}
use Rattle.tables_sql.specs.Contents.{Contents}
use Rattle.paths.specs.Root.{bytes_cmp, Set}
use Rattle.model.specs.World.{World, Path, pair_cmp}
use Rattle.tables_world.specs.Worlds.{IsSoundContents}
use Rattle.tables_outline.specs.Outline.{OutlineValue}
use Rattle.tables_writes.specs.Writes.{StaysSound}
use Rattle.tables_writes.specs.TablesValue.{TablesValue, Agrees}
use Rattle.tables_writes.proofs.AfterWrites.{Follows, IsWrite}

-- a change of the permanent roots, the user roots and the runtime roots
module _ (f : finite.FinMap bytes_cmp Path → finite.FinMap bytes_cmp Path)
    (u : finite.FinMap pair_cmp Path → finite.FinMap pair_cmp Path) (r : Set pair_cmp → Set pair_cmp) where
  abbrev pub with_roots : World → World
  with_roots w = record w { permanent = f w.permanent; user_roots = u w.user_roots; runtime = r w.runtime }

  abbrev pub rows_with : Contents → Contents
  rows_with c = record c { permanent = f c.permanent; user_roots = u c.user_roots; runtime = r c.runtime }

  abbrev pub outline_with : OutlineValue → OutlineValue
  outline_with o = record o { permanent = f o.permanent; user_roots = u o.user_roots; runtime = r o.runtime }

  pub roots_follow : (dir : List ℕ) (c : Contents) → IsSoundContents dir c → Follows dir rows_with with_roots c
  roots_follow dir c h = record {
    world = refl;
    sound = λ world. record {
      directory = h.directory;
      settings_are = h.settings_are;
      no_pieces = h.no_pieces;
      no_temporary = h.no_temporary;
      cut = h.cut;
      pieces = h.pieces;
      sessions = h.sessions;
      address = h.address;
      hash = h.hash;
      references = h.references;
      outputs = h.outputs;
      generations = h.generations;
      numbers = h.numbers;
      current = h.current;
      world = world;
    };
  }

  pub roots_write : {S : Type 0} (g : Ghosts S) (k now : TablesValue S) → k ≡ now → Agrees g k
      → StaysSound g now with_roots → IsWrite g k now rows_with with_roots outline_with
  roots_write g k now view agrees sound = record {
    view = view;
    law = λ w. refl;
    follows = λ clean is_open. roots_follow k.dir _ (agrees.rows clean is_open).sound;
    agrees = agrees;
    sound = sound;
  }
