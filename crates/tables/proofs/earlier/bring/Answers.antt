use Rattle.std.proofs.Common.{sym, subst, refl}
use Rattle.tables_schema.specs.declared.schema.Schema.{Schema}
use Rattle.tables_schema.specs.declared.schema.Schema.TheVariants.{V1, V2, V3}
use Rattle.tables_make.specs.Commits.{Migrates}
use Rattle.tables.specs.Adopted.{HasTables}
use Rattle.tables.proofs.Brought.{third_stays}
use Rattle.tables.proofs.earlier.bring.Goals as goal

pub from_first-requires : goal.from_first-requires
from_first-requires g c =
    let it : HasTables g.S.Store V1 c.args.conn.now =
    subst (λ (s : Schema). HasTables g.S.Store s c.args.conn.now) c.in-V1.is c.requires.tables in
    record {
      idle = it.idle;
      ready = λ clean is_open. it.ready clean;
      tables = λ clean is_open. (it.found clean).tables;
    }

pub from_second-requires : goal.from_second-requires
from_second-requires g c =
    let it : HasTables g.S.Store V2 c.args.conn.now =
    subst (λ (s : Schema). HasTables g.S.Store s c.args.conn.now) c.in-V2.is c.requires.tables in
    record {
      idle = it.idle;
      ready = λ clean is_open. it.ready clean;
      tables = λ clean is_open. ((it.found clean).tables, (it.found clean).further.pieces refl);
    }

pub returns-in-V1-clause-migrates : goal.returns-in-V1-clause-migrates
returns-in-V1-clause-migrates g c =
    subst (λ (s : Schema). Migrates g.S.Store c.args.conn.now c.from_first.new.conn c.from_first.result s)
    (sym c.in-V1.is) c.from_first.ensures

pub returns-in-V2-clause-migrates : goal.returns-in-V2-clause-migrates
returns-in-V2-clause-migrates g c =
    subst (λ (s : Schema). Migrates g.S.Store c.args.conn.now c.from_second.new.conn c.from_second.result s)
    (sym c.in-V2.is) c.from_second.ensures

-- nothing is done
pub returns-in-V3-clause-migrates : goal.returns-in-V3-clause-migrates
returns-in-V3-clause-migrates g c =
    let it : HasTables g.S.Store V3 c.args.conn.now =
    subst (λ (s : Schema). HasTables g.S.Store s c.args.conn.now) c.in-V3.is c.requires.tables in
    third_stays g.S.Store c.args.conn.now c.args.schema _ c.in-V3.is it c.requires.is_open
    (λ is_open db may. g.met.S.Store.settled c.args.conn.now.store db is_open may)
