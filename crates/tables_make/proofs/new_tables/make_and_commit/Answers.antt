use Rattle.std.proofs.Common.{refl, sym, subst, IsTrue}
use Rattle.sqlite.specs.State.{HasCleanDisk}
use Rattle.sqlite.specs.Held.{state}
use Rattle.tables_schema.specs.Forms.{all_tables}
use Rattle.tables_schema.specs.Presence.{IsFree}
use Rattle.tables_make.specs.NewTables.{IsMaking}
use Rattle.tables_make.proofs.Made.{together}
use Rattle.tables_make.proofs.Settles.{making_free}
use Rattle.tables_make.proofs.new_tables.make_and_commit.Goals as goal

pub make_all-requires : goal.make_all-requires
make_all-requires g c =
    let old = state g.S.Store c.args.conn.now in
    let free = λ (clean : HasCleanDisk old) (is_open : IsTrue old.is_open). let none =
    c.requires.may_make.none clean is_open in together (λ t. IsFree old.now.schema t.name) none.free none.further in
    subst (λ h. HasCleanDisk (state g.S.Store h) → IsMaking all_tables (state g.S.Store h))
    (sym c.transaction-tx.ensures.begun)
    (λ clean. making_free all_tables _ (c.requires.sound clean)
    (λ up. (free clean up, (c.requires.may_make.none clean up).counted)) refl)
