use Rattle.nar.specs.declared.error.NarError.TheVariants.{Memory}
use Rattle.intake.proofs.arrival.Arriving.new.Goals as goal

pub invariant_of-result : goal.invariant_of-result
invariant_of-result c =
    rw c.new-3.ensures (record {
      fed = c.new.ensures.fed;
      sound = c.new.ensures.sound Memory;
      hashed = c.new-2.ensures;
      contents_hashed = tt;
    })
