use Rattle.std.proofs.Common.{ℕ, sym, subst}
use Rattle.std.specs.Prelude.{IsTrue, option_map}
use Rattle.nar.specs.Nest.{is_counted}
use Rattle.nar.specs.NestView.{open_names}
use Rattle.nar.proofs.Nests.{counted_refused}
use Rattle.nar.proofs.nest.Nest.skip.Goals as goal

pub returns-in_default : goal.returns-in_default
returns-in_default c = record {
  ok = tt;
  err = λ s len counted some.
      counted_refused c.args.self.now.phase (option_map (λ v. v.items) c.args.self.now.last)
      (open_names c.args.self.now) s c.in_default.not-Data
      (subst (λ (k : ℕ). IsTrue (is_counted c.args.self.now.phase k)) (sym len) counted) some;
}
