use Rattle.std.proofs.Common.{◌≡◌, inl, inr, rules, [], ◌∷◌, ◌++◌, map, ap, sym, ◌∙◌, w64, SFits, to_z-of_z}
use Rattle.sqlite_value.specs.declared.value.Value.TheVariants.{Int}
use Rattle.tables_recognize.proofs.OwnRowids.{ids_more, no_id}
use Rattle.tables_recognize.proofs.ReadableRows.{readable_more}
use Rattle.tables_sql.proofs.TestFailures.{passed_on}
use Rattle.tables_recognize.proofs.tested_rows.TestedSink.take.Goals as goal

pub returns-in_err-read_id-clause-refused : goal.returns-in_err-read_id-clause-refused
returns-in_err-read_id-clause-refused c =
    passed_on c.from_residual.result c.in_err-read_id.field-0.0 _ c.from_residual.ensures.1
    (elim c.in_err-read_id.ensures.cause [
      | inl memory ↦ inl memory
      | inr disk ↦ inr (disk.0, λ rows are. no_id rows c.args.row.now disk.1)
    ])

pub returns-clause-loaded : goal.returns-clause-loaded
returns-clause-loaded c rows h =
    let self = c.args.self.now in
    let id = c.in_ok-read_id.field-0 in
    let fits : SFits w64 id = search rules in
    let pushed : c.push.new.self.items ≡ self.ids.items ++ id ∷ [] =
    c.in_ok-push.ensures.items ∙ ap (λ n. self.ids.items ++ n ∷ []) (to_z-of_z fits) in (
      ids_more rows c.args.row.now self.ids.items id h.0 c.in_ok-read_id.ensures.shown ∙ ap (map Int) (sym pushed),
      readable_more self.are_readable c.are_readable.result rows c.args.row.now h.1 c.are_readable.ensures,
    )
