use Rattle.std.proofs.Common.{List, length, ◌<◌, sym, subst}
use Rattle.tables_schema.specs.declared.store_table.StoreTable.{StoreTable}
use Rattle.std.specs.List.{AllByRecursion}
use Rattle.sqlite.specs.Held.{state}
use Rattle.tables_schema.specs.Intact.{IsIntact}
use Rattle.tables_schema.specs.StoreTables.{form}
use Rattle.tables_recognize.proofs.Opened.{Tested, found_by, some_tables, intact_by}
use Rattle.tables_recognize.proofs.recognition.inspect_tables.Goals as goal
use Rattle.tables_sql.proofs.Steps.{clean_before}

pub all-requires-clause-some : goal.all-requires-clause-some
all-requires-clause-some g c =
    subst (λ (ts : List StoreTable). 0 < length ts) (sym c.schema_tables.ensures) (some_tables c.args.schema)

pub all-requires-clause-frame : goal.all-requires-clause-frame
all-requires-clause-frame g c =
    let schema = c.args.conn.now.schema in
    record {
      frame = c.requires.frame;
      sound = c.requires.sound;
      exists =
          λ clean up. subst (AllByRecursion (λ t. IsIntact schema (form t))) (sym c.schema_tables.ensures)
          (intact_by c.args.schema schema (c.requires.exists clean up));
    }

pub returns-then-branch-clause-tested : goal.returns-then-branch-clause-tested
returns-then-branch-clause-tested g c =
    let now = c.all.ensures in
    record {
      frame = now.frame;
      unchanged = λ clean. (c.in_ok-all.ensures.reported clean).0;
      found = λ clean.
          let early = clean_before _ _ _ now.frame.survives clean in
          let up = (c.in_ok-all.ensures.reported clean).0.0.was_open in
          (found_by _ _ _ (c.requires.sound early up) (c.requires.frame.settled early up) c.args.schema
          (c.requires.exists early up)
          (subst (λ ts. Tested ts (state g.S.Store c.args.conn.now) (state g.S.Store c.all.new.conn)
          c.in_ok-all.field-0) c.schema_tables.ensures (c.in_ok-all.ensures.reported clean))).0
          c.if-branch.true;
      cause = λ _. tt;
    }

pub returns-else-branch-clause-tested : goal.returns-else-branch-clause-tested
returns-else-branch-clause-tested g c =
    let now = c.all.ensures in
    record {
      frame = now.frame;
      unchanged = λ clean. (c.in_ok-all.ensures.reported clean).0;
      found = λ clean.
          let early = clean_before _ _ _ now.frame.survives clean in
          let up = (c.in_ok-all.ensures.reported clean).0.0.was_open in
          (found_by _ _ _ (c.requires.sound early up) (c.requires.frame.settled early up) c.args.schema
          (c.requires.exists early up)
          (subst (λ ts. Tested ts (state g.S.Store c.args.conn.now) (state g.S.Store c.all.new.conn)
          c.in_ok-all.field-0) c.schema_tables.ensures (c.in_ok-all.ensures.reported clean))).1
          c.if-branch.false;
      cause = λ _. tt;
    }
