use Rattle.std.proofs.Common.{map, ap, ◌∙◌}
use Rattle.sqlite.specs.Held.{state}
use Rattle.tables_sql.specs.Contents.{contents_of}
use Rattle.tables_rows.specs.Entries.{setting_of}
use Rattle.tables_recognize.proofs.SettingRows.{settings_reported}
use Rattle.tables_rows.proofs.Several.{finds_failed, one_failed, memory_failed}
use Rattle.tables_recognize.proofs.settings.read.Goals as goal

pub returns-in_err-all : goal.returns-in_err-all
returns-in_err-all g c =
    finds_failed _ _ c.from_residual.result _ _ c.from_residual.ensures.1
    (one_failed _ _ c.from_residual.result _ c.from_residual.ensures.1 c.find.ensures.found.frame
    c.in_err-all.ensures.found.cause)

pub returns-in_err-directory_of : goal.returns-in_err-directory_of
returns-in_err-directory_of g c =
    finds_failed _ _ c.from_residual-in_err-directory_of.result _ _ c.from_residual-in_err-directory_of.ensures.1
    (memory_failed _ _ c.from_residual-in_err-directory_of.result c.from_residual-in_err-directory_of.ensures.1
    c.find.ensures.found.frame)

pub returns : goal.returns
returns g c = record {
  frame = c.find.ensures.found.frame;
  reads = λ clean.
      let read = c.in_ok-all.ensures.found.reads clean in (
        read.0,
        settings_reported c.args.schema (contents_of (state g.S.Store c.args.conn.now).now).meta
            (map setting_of c.as_slice.result.now) (ap (map setting_of) c.as_slice.ensures.value ∙ read.1)
            c.in_ok-directory_of.field-0 c.in_ok-directory_of.ensures,
      );
  cause = λ _. tt;
}
