use Rattle.std.proofs.Common.{rules, ◌≡◌, ◌+◌, ◌≤◌, ◌<◌, ◌++◌, ℕ, List, Option, Err, length, length-append, arith, ◌∙◌}
use Rattle.std.proofs.lemmas.Result.{err_from_is_err_and}
use Rattle.std.proofs.KnownBytes.{Consumes-kept, Consumes-trans}
use Rattle.std.specs.Io.KnownBytes.{Consumes}
use Rattle.streams.specs.Reads.{ReadsOn, Receives}
use Rattle.streams.specs.declared.error.ReadError.{ReadError}
use Rattle.streams.specs.declared.error.ReadError.TheVariants.{Input, Memory}
use Rattle.streams.proofs.receive.receive_at_most.Goals as goal

-- a read that failed after others, or whose bytes were not passed on
ended : (old mid new : Option (List ℕ)) (most left room : ℕ) (bs held held' held'' : List ℕ) (fault : ReadError)
    → 0 < left → room ≤ left
    → Consumes old mid bs → length bs + left ≡ most → held' ≡ held ++ bs → ReadsOn room mid new held' held'' (Err fault)
    → Receives most old new held held'' (Err fault)
ended old mid new most left room bs held held' held'' Input some within taken sum is (kept, same) =
    (bs, Consumes-kept old mid new bs taken kept, omega arith, (omega arith, same ∙ is))
ended old mid new most left room bs held held' held'' Memory some within taken sum is (more, came, least, fits) =
    let size : length (bs ++ more) ≡ length bs + length more = length-append bs more in
    (bs ++ more, Consumes-trans old mid new bs more taken came, omega arith, omega arith)

pub returns-in_err-count : goal.returns-in_err-count
returns-in_err-count g c =
    let before = c.reads.invariant in
    let p = err_from_is_err_and c.from_residual.result c.from_residual.ensures.1 in
    rw (p.1, p.2) (ended _ _ _ c.args.most c.reads.left _ before.0 _ _ _ c.in_err-count.field-0.0 c.reads-test.true
    (search rules) before.1 before.2 before.3 c.in_err-count.ensures)
