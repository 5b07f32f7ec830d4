-- What the code's description of a table means.
use Rattle.std.specs.Prelude.{◌≡◌, false, [], None}
use Rattle.sqlite_schema.specs.declared.schema.Column.{Column}
use Rattle.sqlite_schema.specs.declared.schema.Table.{Table}
use Rattle.tables_schema.specs.declared.form.Expected.{Expected}
use Rattle.tables_schema.specs.Forms.{col}

abbrev pub expected_column : Expected → Column
expected_column w = col w.name.now w.kind w.required

-- a table with no more than columns and keys
pub record IsPlain (t : Table) : Type 0 where
  pub key : t.key ≡ None
  pub checks : t.checks ≡ []
  pub references : t.references ≡ []
  pub computed : t.computed ≡ []
  pub stamps : t.stamps ≡ record { places = []; terms = []; formats = [] }
  pub counted : t.is_counted ≡ false
