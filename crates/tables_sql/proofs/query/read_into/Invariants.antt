use Rattle.std.proofs.Common.{◌≡◌, false, List}
use Rattle.sqlite_value.specs.Order.{Row}
use Rattle.sqlite.specs.State.{HasCleanDisk, IsUnchanged, Survives}
use Rattle.sqlite.specs.Held.{state}
use Rattle.sqlite.specs.Values.{bound}
use Rattle.sqlite.specs.Given.{HasGiven}
use Rattle.tables_sql.proofs.query.read_into.Given as goal

abbrev pub invariant-rows : goal.invariant-rows
invariant-rows g l =
    let old = state g.S.Store l.fn.conn in
    let now = state g.S.Store l.rows.conn.now in
    (l.rows.conn.ghost_name ≡ l.initial.rows.conn.ghost_name)
    × (l.fn.conn.in_transaction ≡ false → l.rows.conn.now.in_transaction ≡ false) × Survives old now (λ _. ⊥)
    × (HasCleanDisk now → (given : List Row) × HasGiven g.S.Store l.text (bound l.params) l.rows.conn.now given
    × IsUnchanged old now × g.T.Sink.is_of given l.sink)
