use Rattle.std.specs.Prelude.{◌*◌, take}
use Rattle.sha2.specs.Hashers.{Holds256}
use Rattle.nar.specs.declared.error.NarError.TheVariants.{Memory}
use Rattle.nar.specs.Checker.{HasBeenFed, HasFailed}
use Rattle.intake.proofs.arrival.Arrived.of_pieces.Given as goal

-- the pieces before this one are checked and hashed
abbrev pub invariant-held : goal.invariant-held
invariant-held l = record {
  fed : HasBeenFed l.checker (take (65536 * l.i) l.fn.pieces);
  sound : ¬ HasFailed l.checker Memory;
  hashed : Holds256 l.hasher (take (65536 * l.i) l.fn.pieces);
}
