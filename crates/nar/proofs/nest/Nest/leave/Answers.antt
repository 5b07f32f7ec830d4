use Rattle.std.proofs.Common.{sym, ◌∙◌}
use Rattle.std.proofs.lemmas.Bool.{not-true}
use Rattle.nar.specs.NestView.{open_names}
use Rattle.nar.proofs.Nests.{under_refuses}
use Rattle.nar.proofs.nest.Nest.leave.Goals as goal

pub returns-then-ne : goal.returns-then-ne
returns-then-ne c = record {
  ok = tt;
  err =
      λ _. rw c.requires.phase (under_refuses (open_names c.args.self.now) c.args.text.now
      (rw c.requires.phase at c.requires.some) (not-true _ (sym c.ne.ensures ∙ c.if-ne.true)));
}
