use Rattle.sha2.specs.Hashers.{Holds256}
use Rattle.intake.specs.Contents.{contents_so_far}
use Rattle.intake.proofs.Hashing.{of_all}
use Rattle.intake.proofs.digests.contents_hash.Goals as goal

pub returns-in-None : goal.returns-in-None
returns-in-None c = λ known.
    let bytes = c.args.pieces.now in
    c.finalize.ensures (contents_so_far bytes)
    (of_all (λ b. Holds256 c.contents_up_to.result (contents_so_far b)) bytes c.count.result c.count.ensures
    c.contents_up_to.ensures)
