use Rattle.std.proofs.Common.{map, sym, ap, ◌∙◌}
use Rattle.sqlite.specs.Held.{state}
use Rattle.tables_sql.specs.Contents.{contents_of}
use Rattle.tables_rows.specs.Entries.{numbered_in, piece_in}
use Rattle.tables_rows.proofs.Several.{finds_one}
use Rattle.tables_load_objects.proofs.Columns.{no_parts}
use Rattle.tables_load_objects.proofs.Each.{no_change}
use Rattle.tables_load_objects.proofs.OwnRows.{none_left}
use Rattle.tables_load_objects.proofs.ReadRows.{as_it_was, none_listed}
use Rattle.tables_load_objects.proofs.object_rows.pieces_of.Goals as goal

pub returns-then-not-has_pieces : goal.returns-then-not-has_pieces
returns-then-not-has_pieces g c =
    let s = state g.S.Store c.args.conn.now in
    record {
      frame = as_it_was c.args.conn.now c.requires.frame c.requires.opened;
      reads = λ clean. (
        no_change s (c.requires.opened clean),
        ap (map piece_in) c.new.ensures.items
            ∙ sym (none_listed (contents_of s.now).pieces c.args.base.now
            (c.requires.pieces.no_table clean (sym c.has_pieces.ensures ∙ c.if-not-has_pieces.true)
            (c.requires.opened clean))),
      );
      cause = λ _. tt;
    }

pub returns-then-is_empty : goal.returns-then-is_empty
returns-then-is_empty g c =
    let s = state g.S.Store c.args.conn.now in
    record {
      frame = as_it_was c.args.conn.now c.requires.frame c.requires.opened;
      reads = λ clean. (
        no_change s (c.requires.opened clean),
        ap (map piece_in) c.new-then-is_empty.ensures.items
            ∙ sym (no_parts (contents_of s.now) c.args.base.now c.deref.result.now c.group.result.now
            (ap (map numbered_in) c.deref.ensures.value ∙ (c.requires.joined clean).pieces) c.group.ensures
            (none_left c.group.result.now (sym c.is_empty.ensures ∙ c.if-is_empty.true))),
      );
      cause = λ _. tt;
    }

pub find-requires-clause-exists : goal.find-requires-clause-exists
find-requires-clause-exists g c clean is_open =
    c.requires.pieces.exists clean (sym c.has_pieces.ensures ∙ c.if-not-has_pieces.false) is_open

pub returns : goal.returns
returns g c =
    finds_one _ _ c.find.result _ c.find.ensures.found.frame c.find.ensures.found.reads c.find.ensures.found.cause
