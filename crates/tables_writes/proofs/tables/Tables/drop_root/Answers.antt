use Rattle.std.proofs.Common.{sym, subst}
use Rattle.tables_writes.specs.declared.named_roots.RootName.{RootName}
use Rattle.tables_writes.specs.Entries.{without_root}
use Rattle.tables_writes.specs.Writes.{CommitsChange, StaysSound}
use Rattle.tables_writes.proofs.tables.Tables.drop_root.Goals as goal

pub drop_permanent-requires : goal.drop_permanent-requires
drop_permanent-requires g c =
    record {
      sound = subst (λ (n : RootName). StaysSound g.S.Store c.args.self.now (without_root n)) c.in-Permanent.is
          c.requires;
    }

pub returns-in-Permanent : goal.returns-in-Permanent
returns-in-Permanent g c = record {
  frame =
      subst (λ (n : RootName). CommitsChange g.S.Store c.args.self.now c.drop_permanent.new.self c.drop_permanent.result
      (without_root n)) (sym c.in-Permanent.is) c.drop_permanent.ensures.frame;
  cause = c.drop_permanent.ensures.cause;
}

pub drop_user_root-requires : goal.drop_user_root-requires
drop_user_root-requires g c =
    record {
      sound = subst (λ (n : RootName). StaysSound g.S.Store c.args.self.now (without_root n)) c.in-User.is
          c.requires;
    }

pub returns-in-User : goal.returns-in-User
returns-in-User g c = record {
  frame =
      subst (λ (n : RootName). CommitsChange g.S.Store c.args.self.now c.drop_user_root.new.self c.drop_user_root.result
      (without_root n)) (sym c.in-User.is) c.drop_user_root.ensures.frame;
  cause = c.drop_user_root.ensures.cause;
}
