-- The world that the contents of the store's tables have, and when they are sound.
use Rattle.std.specs.Prelude.{List, ℕ}
use Rattle.tables_sql.specs.Contents.{Contents}
use Rattle.model.specs.World.{World}
use Rattle.tables_world.specs.Rows.{Rows, IsSoundRows, world_of}
use Rattle.tables_schema.specs.declared.schema.Schema.{Schema}
use Rattle.tables_schema.specs.declared.schema.Schema.TheVariants.{V3}

-- The two orders of each column are the same.
abbrev pub rows_of : Contents → Rows
rows_of c = record {
  meta = c.meta;
  objects = c.objects;
  refs = c.refs;
  outs = c.outs;
  permanent = c.permanent;
  user_roots = c.user_roots;
  profiles = c.profiles;
  generations = c.generations;
  runtime = c.runtime;
  pieces = c.pieces;
  temp_roots = c.temp_roots;
}

-- the world that they have
abbrev pub world_in : Contents → World
world_in c = world_of (rows_of c)

-- contents are sound in the form of a schema, for a store directory: what an opening asks of a file before it is
-- migrated
abbrev pub IsSoundBy : Schema → List ℕ → Contents → Type 0
IsSoundBy schema dir c = IsSoundRows schema dir (rows_of c)

-- contents are sound in the form that a new database has, the third
abbrev pub IsSoundContents : List ℕ → Contents → Type 0
IsSoundContents dir c = IsSoundBy V3 dir c
