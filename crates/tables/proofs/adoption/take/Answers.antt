use Rattle.std.specs.Prelude.{⊤}
use Rattle.std.proofs.Common.{◌≡◌, inl, inr, ap, subst, ◌∙◌}
use Rattle.tables_schema.specs.declared.recognition.Recognised.{Recognised}
use Rattle.tables_schema.specs.declared.recognition.Recognised.TheVariants.{Tables}
use Rattle.sqlite.specs.Held.{state}
use Rattle.tables_make.specs.NewTables.{LeavesMade}
use Rattle.tables_schema.specs.declared.schema.Schema.TheVariants.{V1, V2, V3}
use Rattle.tables_recognize.specs.Opened.{IsReadyBy}
use Rattle.tables.specs.Opening.{OpensExisting, OpensMigrated, OpensNew, OpensStore, LeavesMigration, LeavesOpening}
use Rattle.tables_schema.specs.Presence.{HasNone}
use Rattle.tables.proofs.FoundTables.{first_found, second_found, third_found, is_none, is_other}
use Rattle.tables.proofs.InTheWay.{no_store_cause}
use Rattle.tables.proofs.Adopted.{adopts_more, adopts_refused}
use Rattle.tables.proofs.adoption.take.Goals as goal

pub open_earlier-requires : goal.open_earlier-requires
open_earlier-requires g c =
    let s = state g.S.Store c.args.conn in
    let is : c.args.found ≡ Tables V1 =
    c.in-Tables-V1.is ∙ ap Tables (rw c.in-Tables-V1.is at c.in-Tables-V1.field-0-is) in
    record {
      idle = c.requires.idle;
      ready = λ clean. subst (λ (r : Recognised). IsReadyBy r s) is (c.requires.found clean).ready;
      found = λ clean. first_found c.args.found s (c.requires.found clean) is;
    }

pub open_earlier-requires-in-Tables-V2 : goal.open_earlier-requires-in-Tables-V2
open_earlier-requires-in-Tables-V2 g c =
    let s = state g.S.Store c.args.conn in
    let is : c.args.found ≡ Tables V2 =
    c.in-Tables-V2.is ∙ ap Tables (rw c.in-Tables-V2.is at c.in-Tables-V2.field-0-is) in
    record {
      idle = c.requires.idle;
      ready = λ clean. (subst (λ (r : Recognised). IsReadyBy r s) is (c.requires.found clean).ready).0;
      found = λ clean. second_found c.args.found s (c.requires.found clean) is;
    }

pub open_existing-requires : goal.open_existing-requires
open_existing-requires g c =
    let s = state g.S.Store c.args.conn in
    let is : c.args.found ≡ Tables V3 =
    c.in-Tables-V3.is ∙ ap Tables (rw c.in-Tables-V3.is at c.in-Tables-V3.field-0-is) in
    record {
      idle = c.requires.idle;
      ready = λ clean. (subst (λ (r : Recognised). IsReadyBy r s) is (c.requires.found clean).ready).0;
      found = λ clean. third_found c.args.found s (c.requires.found clean) is;
    }

pub open_new-requires : goal.open_new-requires
open_new-requires g c =
    let s = state g.S.Store c.args.conn in
    record {
      idle = c.requires.idle;
      none = λ clean. is_none c.args.found s (c.requires.found clean) c.in-Nothing.is;
      settled = λ clean. (c.requires.found clean).settled;
    }

pub returns-in-Nothing : goal.returns-in-Nothing
returns-in-Nothing g c =
    let a = state g.S.Store c.args.conn in
    adopts_more g.S.Store c.args.dir.now a c.open_new.result (HasNone a.now.schema) (OpensNew g.S.Store a.now)
    (OpensStore g.S.Store c.args.dir.now a.now)
    (LeavesMade c.args.dir.now a.now) (LeavesOpening c.args.dir.now a.now)
    (λ clean. is_none c.args.found a (c.requires.found clean) c.in-Nothing.is) (λ t it. inl it)
    (λ db none left. inl (none, left)) c.open_new.ensures

pub returns-in-Tables-V1 : goal.returns-in-Tables-V1
returns-in-Tables-V1 g c =
    let a = state g.S.Store c.args.conn in
    adopts_more g.S.Store c.args.dir.now a c.open_earlier.result ⊤ (OpensMigrated g.S.Store V1 c.args.dir.now a.now)
    (OpensStore g.S.Store c.args.dir.now a.now)
    (LeavesMigration V1 c.args.dir.now a.now) (LeavesOpening c.args.dir.now a.now)
    (λ clean. tt) (λ t it. inr (inr (inl it))) (λ db _ left. inr (inl left)) c.open_earlier.ensures

pub returns-in-Tables-V2 : goal.returns-in-Tables-V2
returns-in-Tables-V2 g c =
    let a = state g.S.Store c.args.conn in
    adopts_more g.S.Store c.args.dir.now a c.open_earlier-in-Tables-V2.result ⊤
    (OpensMigrated g.S.Store V2 c.args.dir.now a.now) (OpensStore g.S.Store c.args.dir.now a.now)
    (LeavesMigration V2 c.args.dir.now a.now) (LeavesOpening c.args.dir.now a.now)
    (λ clean. tt) (λ t it. inr (inr (inr it))) (λ db _ left. inr (inr left)) c.open_earlier-in-Tables-V2.ensures

pub returns-in-Tables-V3 : goal.returns-in-Tables-V3
returns-in-Tables-V3 g c =
    let a = state g.S.Store c.args.conn in
    adopts_more g.S.Store c.args.dir.now a c.open_existing.result ⊤ (OpensExisting g.S.Store c.args.dir.now a.now)
    (OpensStore g.S.Store c.args.dir.now a.now)
    (λ _. ⊥) (LeavesOpening c.args.dir.now a.now)
    (λ clean. tt) (λ t it. inr (inl it)) (λ db _ none. absurd none) c.open_existing.ensures

pub returns-in-Other : goal.returns-in-Other
returns-in-Other g c =
    let a = state g.S.Store c.args.conn in
    adopts_refused g.S.Store c.args.dir.now g.met.S.Store.settled _ c.requires.idle
    (λ clean. no_store_cause c.args.dir.now a.now (is_other c.args.found a (c.requires.found clean) c.in-Other.is)) _ _
