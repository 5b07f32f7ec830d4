-- The rows of the settings.
use Rattle.std.specs.Prelude.{List, [], ◌∷◌, ℕ, codes}
use Rattle.tables_schema.specs.declared.schema.Schema.{Schema}
use Rattle.tables_schema.specs.Schemas.{schema_text}

-- the two settings of a database of a store directory, by its schema, in the order of their words
abbrev pub two_settings : Schema → List ℕ → List (List ℕ × List ℕ)
two_settings schema dir = (codes "schema", schema_text schema) ∷ (codes "store-dir", dir) ∷ []
