-- What the setting of a schema says, and which further tables each schema has.
use Rattle.std.specs.Prelude.{ℕ, Bool, true, false, List, codes}
use Rattle.tables_schema.specs.declared.schema.Schema.{Schema}
use Rattle.tables_schema.specs.declared.schema.Schema.TheVariants.{V1, V2, V3}

-- what the setting of the schema says
abbrev pub schema_text : Schema → List ℕ
schema_text V1 = codes "1"
schema_text V2 = codes "2"
schema_text V3 = codes "3"

abbrev pub has_pieces : Schema → Bool
has_pieces V1 = false
has_pieces V2 = true
has_pieces V3 = true

abbrev pub has_temporary : Schema → Bool
has_temporary V1 = false
has_temporary V2 = false
has_temporary V3 = true
