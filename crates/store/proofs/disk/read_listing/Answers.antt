use Rattle.std.proofs.Common.{ℕ, List, ap, ◌∙◌}
use Rattle.std.proofs.lemmas.Result.{IfOk-weaker}
use Rattle.sqlite.specs.Held.{state}
use Rattle.nar.specs.Outcome.{outcome_of}
use Rattle.model.specs.Answers.{listing_at}
use Rattle.store.proofs.FromDisk.{listed, lists}
use Rattle.store.proofs.disk.read_listing.Goals as goal

pub returns : goal.returns
returns g c = record {
  reads = c.in_ok-nar.ensures.reads;
  value =
      λ clean. IfOk-weaker c.list.result _ _
      (λ text is w t. listed (outcome_of c.in_ok-nar.nar) _ is
      ∙ ap (λ (b : List ℕ). listing_at (outcome_of b)) (c.in_ok-nar.ensures.value clean w t))
      c.list.ensures.listing;
  cause = λ w t valid clean.
      lists (state g.S.Store c.args.tables.now.connection) (state g.S.Store c.read.new.tables.connection)
      c.args.tables.now.dir w t.sound c.args.path.now valid
      c.in_ok-nar.nar (c.in_ok-nar.ensures.value clean w t) c.list.result c.list.ensures.failed;
}
