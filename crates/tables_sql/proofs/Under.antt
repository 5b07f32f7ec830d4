-- A transaction goes on after a call, and that a further table is there still.
use Rattle.sqlite.specs.State.{State}
use Rattle.tables_schema.specs.Forms.{piece, temp_root}
use Rattle.tables_sql.specs.Contents.{Contents}
use Rattle.tables_sql.specs.Calls.{Changes, HasFurther, KeepsFurther}

pub piece_after : (old new : State) (change : Contents → Contents) → Changes old new change → HasFurther old.now piece
    → HasFurther new.now piece
unfolding KeepsFurther
piece_after old new change h present = h.further.0 present

pub temp_root_after : (old new : State) (change : Contents → Contents) → Changes old new change
    → HasFurther old.now temp_root → HasFurther new.now temp_root
unfolding KeepsFurther
temp_root_after old new change h present = h.further.1.0 present
