use Rattle.std.proofs.Common.{sym, subst}
use Rattle.tables_writes.specs.declared.named_roots.RootName.{RootName}
use Rattle.tables_writes.specs.Entries.{with_root}
use Rattle.tables_writes.specs.Writes.{CommitsChange, StaysSound, FailsToChange}
use Rattle.tables_writes.specs.RowsPut.{RootRow}
use Rattle.tables_writes.proofs.tables.Tables.put_root.Goals as goal

pub put_permanent-requires : goal.put_permanent-requires
put_permanent-requires g c =
    record {
      sound = subst (λ (n : RootName). StaysSound g.S.Store c.args.self.now (with_root n c.args.target.now))
          c.in-Permanent.is c.requires;
    }

pub returns-in-Permanent : goal.returns-in-Permanent
returns-in-Permanent g c = record {
  frame =
      subst (λ (n : RootName). CommitsChange g.S.Store c.args.self.now c.put_permanent.new.self c.put_permanent.result
      (with_root n c.args.target.now)) (sym c.in-Permanent.is) c.put_permanent.ensures.frame;
  cause =
      subst (λ (n : RootName). FailsToChange g.S.Store c.args.self.now c.put_permanent.new.self c.put_permanent.result
      (RootRow n c.args.target.now)) (sym c.in-Permanent.is) c.put_permanent.ensures.cause;
}

pub put_user_root-requires : goal.put_user_root-requires
put_user_root-requires g c =
    record {
      sound = subst (λ (n : RootName). StaysSound g.S.Store c.args.self.now (with_root n c.args.target.now))
          c.in-User.is c.requires;
    }

pub returns-in-User : goal.returns-in-User
returns-in-User g c = record {
  frame =
      subst (λ (n : RootName). CommitsChange g.S.Store c.args.self.now c.put_user_root.new.self c.put_user_root.result
      (with_root n c.args.target.now)) (sym c.in-User.is) c.put_user_root.ensures.frame;
  cause =
      subst (λ (n : RootName). FailsToChange g.S.Store c.args.self.now c.put_user_root.new.self c.put_user_root.result
      (RootRow n c.args.target.now)) (sym c.in-User.is) c.put_user_root.ensures.cause;
}
