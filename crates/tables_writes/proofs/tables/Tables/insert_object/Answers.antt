use Rattle.std.proofs.Common.{ℕ, List, Some, None, is_some, option_map, string_bytes, sym, ap, subst, ◌∙◌}
use Rattle.std.specs.FinMap as finite
use Rattle.std.proofs.lemmas.Bool.{false≢true}
use Rattle.std.proofs.lemmas.Option.{same_Some}
use Rattle.sqlite.specs.Held.{state}
use Rattle.tables_sql.specs.Contents.{contents_of}
use Rattle.tables_rows.specs.Entries.{stored}
use Rattle.tables_world.specs.Pieces.{row_part, further_pieces}
use Rattle.tables_writes.specs.TablesValue.{TablesValue}
use Rattle.tables_writes.specs.Rewritten.{HasNoObject, put_object}
use Rattle.tables_writes.specs.RowsPut.{AddedRows, RowsWithAddress}
use Rattle.tables_writes.proofs.AfterWrites.{write_agrees, write_commits, write_fails, failure_agrees, failure_seen}
use Rattle.tables_writes.proofs.AfterWrites.{rows_as}
use Rattle.tables_writes.proofs.AddedObjects.{address_among, found_put, object_undone, object_fits, object_rows}
use Rattle.tables_writes.proofs.AddedObjects.{object_write, put_is}
use Rattle.tables_rows.proofs.Reasons.{among_then, more_reason}
use Rattle.tables_writes.proofs.tables.Tables.insert_object.Goals as goal

pub unreachable-requires : goal.unreachable-requires
unreachable-requires g c =
    false≢true (ap is_some (found_put c.self.inside.outline c.insert_object.new.self c.args.path.now c.in_ok-key.key
    c.args.object None c.in_ok-key.ensures.cases c.in_ok-insert_object.ensures.done c.in_default.ensures))

pub commit-requires : goal.commit-requires
commit-requires g c = record {
  idle = c.self.invariant.idle;
  ready = λ clean up. (c.self.invariant.rows clean up).ready;
  whole = λ clean up. (c.self.invariant.rows clean up).whole;
  fits = λ clean is_open.
      subst (λ (p : List ℕ). HasNoObject p (contents_of (state g.S.Store c.self.inside.connection).now))
      (sym c.as_str.ensures.value)
      (object_fits g.S.Store (record {
        connection = c.self.inside.connection;
        dir = c.self.inside.dir;
        outline = c.self.inside.outline;
      }) c.args.self.now c.self.view_is c.insert_object.new.self
      c.args.path.now c.in_ok-key.key c.args.nar.now c.args.object c.in-Some.object.now
      c.in_ok-texts.texts.deriver c.in_ok-texts.texts.ca
      c.self.invariant c.requires.new c.requires.size c.requires.hash c.in_ok-texts.ensures.deriver
      c.in_ok-texts.ensures.ca c.in_ok-texts.ensures.valid
      (same_Some c.in-Some.object.now c.args.object
      (found_put c.self.inside.outline c.insert_object.new.self c.args.path.now c.in_ok-key.key c.args.object
      (Some c.in-Some.object.now) c.in_ok-key.ensures.cases c.in_ok-insert_object.ensures.done c.in-Some.ensures))
      c.requires.sound clean is_open);
}

pub invariant_of-self-in-Ok : goal.invariant_of-self-in-Ok
invariant_of-self-in-Ok g c =
    write_agrees g.S.Store (object_write g.S.Store
    (record { connection = c.self.inside.connection; dir = c.self.inside.dir; outline = c.self.inside.outline })
    c.args.self.now c.self.view_is c.insert_object.new.self c.args.path.now c.in_ok-key.key c.args.nar.now
    c.args.object c.in-Some.object.now c.in_ok-texts.texts.deriver c.in_ok-texts.texts.ca
    c.self.invariant c.requires.new c.requires.size c.requires.hash c.in_ok-texts.ensures.deriver
    c.in_ok-texts.ensures.ca c.in_ok-texts.ensures.valid
    (same_Some c.in-Some.object.now c.args.object
    (found_put c.self.inside.outline c.insert_object.new.self c.args.path.now c.in_ok-key.key c.args.object
    (Some c.in-Some.object.now) c.in_ok-key.ensures.cases c.in_ok-insert_object.ensures.done c.in-Some.ensures))
    c.requires.sound) c.commit.new.conn c.insert_object.new.self _
    (rows_as g.S.Store _ _ (ap (λ (p : List ℕ). put_object p
    (stored (row_part c.args.nar.now) c.in-Some.object.now.hash c.in_ok-texts.texts.deriver
    c.in_ok-texts.texts.ca) (finite.keys c.in-Some.object.now.references)
    (finite.entries c.in-Some.object.now.outputs) (further_pieces c.args.nar.now)) c.as_str.ensures.value)
    c.in-Ok.ensures.frame)
    (put_is g.S.Store (record {
      connection = c.self.inside.connection;
      dir = c.self.inside.dir;
      outline = c.self.inside.outline;
    }) c.args.self.now c.self.view_is c.insert_object.new.self c.args.path.now
    c.in_ok-key.key c.args.nar.now c.args.object c.in-Some.object.now c.in_ok-texts.texts.deriver
    c.in_ok-texts.texts.ca
    c.self.invariant c.requires.new c.requires.size c.requires.hash c.in_ok-texts.ensures.deriver
    c.in_ok-texts.ensures.ca c.in_ok-texts.ensures.valid
    (same_Some c.in-Some.object.now c.args.object
    (found_put c.self.inside.outline c.insert_object.new.self c.args.path.now c.in_ok-key.key c.args.object
    (Some c.in-Some.object.now) c.in_ok-key.ensures.cases c.in_ok-insert_object.ensures.done c.in-Some.ensures))
    c.requires.sound c.in_ok-key.ensures.cases c.in_ok-insert_object.ensures.done)

pub invariant_of-self-in-Err : goal.invariant_of-self-in-Err
invariant_of-self-in-Err g c =
    failure_agrees g.S.Store (object_write g.S.Store
    (record { connection = c.self.inside.connection; dir = c.self.inside.dir; outline = c.self.inside.outline })
    c.args.self.now c.self.view_is c.insert_object.new.self c.args.path.now c.in_ok-key.key c.args.nar.now
    c.args.object c.in-Some.object.now c.in_ok-texts.texts.deriver c.in_ok-texts.texts.ca
    c.self.invariant c.requires.new c.requires.size c.requires.hash c.in_ok-texts.ensures.deriver
    c.in_ok-texts.ensures.ca c.in_ok-texts.ensures.valid
    (same_Some c.in-Some.object.now c.args.object
    (found_put c.self.inside.outline c.insert_object.new.self c.args.path.now c.in_ok-key.key c.args.object
    (Some c.in-Some.object.now) c.in_ok-key.ensures.cases c.in_ok-insert_object.ensures.done c.in-Some.ensures))
    c.requires.sound) c.commit.new.conn c.remove_object.new.self _
    (rows_as g.S.Store _ _ (ap (λ (p : List ℕ). put_object p
    (stored (row_part c.args.nar.now) c.in-Some.object.now.hash c.in_ok-texts.texts.deriver
    c.in_ok-texts.texts.ca) (finite.keys c.in-Some.object.now.references)
    (finite.entries c.in-Some.object.now.outputs) (further_pieces c.args.nar.now)) c.as_str.ensures.value)
    c.in-Err.ensures.frame)
    (object_undone c.self.inside.outline c.insert_object.new.self c.remove_object.new.self c.args.path.now
    c.in_ok-key.key c.args.object c.in_ok-key.ensures.cases c.in_ok-insert_object.ensures.done
    (ap (λ (n : TablesValue g.row.S.Denot). finite.get n.outline.objects c.args.path.now) c.self.view_is
    ∙ c.requires.new) c.remove_object.ensures)

pub returns-in-Ok-clause-frame : goal.returns-in-Ok-clause-frame
returns-in-Ok-clause-frame g c =
    write_commits g.S.Store (object_write g.S.Store
    (record { connection = c.self.inside.connection; dir = c.self.inside.dir; outline = c.self.inside.outline })
    c.args.self.now c.self.view_is c.insert_object.new.self c.args.path.now c.in_ok-key.key c.args.nar.now
    c.args.object c.in-Some.object.now c.in_ok-texts.texts.deriver c.in_ok-texts.texts.ca
    c.self.invariant c.requires.new c.requires.size c.requires.hash c.in_ok-texts.ensures.deriver
    c.in_ok-texts.ensures.ca c.in_ok-texts.ensures.valid
    (same_Some c.in-Some.object.now c.args.object
    (found_put c.self.inside.outline c.insert_object.new.self c.args.path.now c.in_ok-key.key c.args.object
    (Some c.in-Some.object.now) c.in_ok-key.ensures.cases c.in_ok-insert_object.ensures.done c.in-Some.ensures))
    c.requires.sound) c.commit.new.conn c.insert_object.new.self _
    (rows_as g.S.Store _ _ (ap (λ (p : List ℕ). put_object p
    (stored (row_part c.args.nar.now) c.in-Some.object.now.hash c.in_ok-texts.texts.deriver
    c.in_ok-texts.texts.ca) (finite.keys c.in-Some.object.now.references)
    (finite.entries c.in-Some.object.now.outputs) (further_pieces c.args.nar.now)) c.as_str.ensures.value)
    c.in-Ok.ensures.frame)
    (put_is g.S.Store (record {
      connection = c.self.inside.connection;
      dir = c.self.inside.dir;
      outline = c.self.inside.outline;
    }) c.args.self.now c.self.view_is c.insert_object.new.self c.args.path.now
    c.in_ok-key.key c.args.nar.now c.args.object c.in-Some.object.now c.in_ok-texts.texts.deriver
    c.in_ok-texts.texts.ca
    c.self.invariant c.requires.new c.requires.size c.requires.hash c.in_ok-texts.ensures.deriver
    c.in_ok-texts.ensures.ca c.in_ok-texts.ensures.valid
    (same_Some c.in-Some.object.now c.args.object
    (found_put c.self.inside.outline c.insert_object.new.self c.args.path.now c.in_ok-key.key c.args.object
    (Some c.in-Some.object.now) c.in_ok-key.ensures.cases c.in_ok-insert_object.ensures.done c.in-Some.ensures))
    c.requires.sound c.in_ok-key.ensures.cases c.in_ok-insert_object.ensures.done) _

pub returns-clause-frame : goal.returns-clause-frame
returns-clause-frame g c =
    write_fails g.S.Store (object_write g.S.Store
    (record { connection = c.self.inside.connection; dir = c.self.inside.dir; outline = c.self.inside.outline })
    c.args.self.now c.self.view_is c.insert_object.new.self c.args.path.now c.in_ok-key.key c.args.nar.now
    c.args.object c.in-Some.object.now c.in_ok-texts.texts.deriver c.in_ok-texts.texts.ca
    c.self.invariant c.requires.new c.requires.size c.requires.hash c.in_ok-texts.ensures.deriver
    c.in_ok-texts.ensures.ca c.in_ok-texts.ensures.valid
    (same_Some c.in-Some.object.now c.args.object
    (found_put c.self.inside.outline c.insert_object.new.self c.args.path.now c.in_ok-key.key c.args.object
    (Some c.in-Some.object.now) c.in_ok-key.ensures.cases c.in_ok-insert_object.ensures.done c.in-Some.ensures))
    c.requires.sound) c.commit.new.conn c.remove_object.new.self _
    (rows_as g.S.Store _ _ (ap (λ (p : List ℕ). put_object p
    (stored (row_part c.args.nar.now) c.in-Some.object.now.hash c.in_ok-texts.texts.deriver
    c.in_ok-texts.texts.ca) (finite.keys c.in-Some.object.now.references)
    (finite.entries c.in-Some.object.now.outputs) (further_pieces c.args.nar.now)) c.as_str.ensures.value)
    c.in-Err.ensures.frame)
    (object_undone c.self.inside.outline c.insert_object.new.self c.remove_object.new.self c.args.path.now
    c.in_ok-key.key c.args.object c.in_ok-key.ensures.cases c.in_ok-insert_object.ensures.done
    (ap (λ (n : TablesValue g.row.S.Denot). finite.get n.outline.objects c.args.path.now) c.self.view_is
    ∙ c.requires.new) c.remove_object.ensures) _

pub returns-clause-cause : goal.returns-clause-cause
returns-clause-cause g c =
    let found = (same_Some c.in-Some.object.now c.args.object
    (found_put c.self.inside.outline c.insert_object.new.self c.args.path.now c.in_ok-key.key c.args.object
    (Some c.in-Some.object.now) c.in_ok-key.ensures.cases c.in_ok-insert_object.ensures.done
    c.in-Some.ensures)) in
    let more = AddedRows c.args.path.now c.args.nar.now c.args.object in
    failure_seen g.S.Store c.commit.new.conn more c.in-Err.failure c.self.view_is
    (λ clean. more_reason _ more (among_then _
    (RowsWithAddress c.args.path.now c.args.nar.now c.args.object
    (option_map string_bytes c.in_ok-texts.texts.ca)) more
    (object_rows c.args.nar.now c.in_ok-texts.texts.deriver c.in_ok-texts.texts.ca c.as_str.ensures.value found
    c.in_ok-texts.ensures.deriver)
    (address_among c.args.path.now c.args.nar.now c.args.object (option_map string_bytes c.in_ok-texts.texts.ca)
    c.in_ok-texts.ensures.ca))
    (state g.S.Store c.self.inside.connection) (state g.S.Store c.commit.new.conn) c.in-Err.failure
    (c.in-Err.ensures.cause clean))
