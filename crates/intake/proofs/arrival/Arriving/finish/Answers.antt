use Rattle.std.proofs.Common.{◌*◌, ◌/◌, take, subst, sym}
use Rattle.sha2.specs.Hashers.{Holds256}
use Rattle.intake.specs.Arrival.{MayHold}
use Rattle.intake.specs.Contents.{contents_so_far}
use Rattle.intake.proofs.Hashing.{of_all}
use Rattle.intake.proofs.arrival.Arriving.finish.Goals as goal

pub returns-clause-reported : goal.returns-clause-reported
returns-clause-reported c =
    let bytes = c.self.inside.pieces in
    let has = c.self.invariant in
    let before =
    subst (λ n. Holds256 c.self.inside.hasher (take (65536 * (n / 65536)) bytes)) (sym c.len-whole.ensures)
    has.hashed in
    let contents_before =
    subst (λ n. MayHold c.self.inside.contents (contents_so_far (take (65536 * (n / 65536)) bytes)))
    (sym c.len-whole.ensures) has.contents_hashed in
    let contents =
    of_all (λ b. MayHold c.hash_asked.new.contents (contents_so_far b)) bytes c.count.result c.count.ensures
    (c.hash_asked.ensures contents_before) in
    record {
      bytes = has.fed.are_bytes;
      hash =
          c.finalize.ensures bytes (of_all (Holds256 c.hash_pieces.new.hasher) bytes c.count.result c.count.ensures
          (c.hash_pieces.ensures before));
      contents = c.finalized.ensures (contents_so_far bytes) contents;
      fault = c.fault_at_end.ensures bytes has.fed has.sound;
    }
