use Rattle.std.proofs.Common.{map, sym, ap, ◌∙◌}
use Rattle.sqlite.specs.Held.{state}
use Rattle.tables_sql.specs.Contents.{contents_of}
use Rattle.tables_rows.specs.Entries.{numbered_in}
use Rattle.tables_rows.proofs.Several.{finds_one}
use Rattle.tables_load_objects.proofs.Each.{no_change}
use Rattle.tables_load_objects.proofs.ReadRows.{as_it_was, no_pieces}
use Rattle.tables_load_objects.proofs.joined.keys_of.Goals as goal

pub returns-then-not-has_pieces : goal.returns-then-not-has_pieces
returns-then-not-has_pieces g c =
    let s = state g.S.Store c.args.conn.now in
    record {
      frame = as_it_was c.args.conn.now c.requires.tables.frame c.requires.opened;
      reads = λ clean. (
        no_change s (c.requires.opened clean),
        ap (map numbered_in) c.new.ensures.items
            ∙ sym (no_pieces (contents_of s.now).pieces
            (c.requires.tables.pieces.no_table clean (sym c.has_pieces.ensures ∙ c.if-not-has_pieces.true)
            (c.requires.opened clean))),
      );
      cause = λ _. tt;
    }

pub find-requires-clause-exists : goal.find-requires-clause-exists
find-requires-clause-exists g c clean is_open =
    c.requires.tables.pieces.exists clean (sym c.has_pieces.ensures ∙ c.if-not-has_pieces.false) is_open

pub returns : goal.returns
returns g c =
    finds_one _ _ c.find.result _ c.find.ensures.found.frame c.find.ensures.found.reads c.find.ensures.found.cause
