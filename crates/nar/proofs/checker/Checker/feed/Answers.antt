use Rattle.std.proofs.Common.{◌++◌, refl, ◌∙◌, arith}
use Rattle.nar.specs.Tree.{IsBytes}
use Rattle.nar.specs.Progress.{HasReadBefore}
use Rattle.nar.proofs.Bytes.{IsBytes-append}
use Rattle.nar.proofs.Feeding.{fault_stays}
use Rattle.nar.proofs.Counting.{has_read_only}
use Rattle.nar.proofs.Stepping.{has_read_all}
use Rattle.nar.proofs.checker.Checker.feed.Goals as goal

pub returns-in-Some-clause-fed : goal.returns-in-Some-clause-fed
returns-in-Some-clause-fed c = λ all h.
    let both : IsBytes (all ++ c.args.piece.now) =
    IsBytes-append all c.args.piece.now h.are_bytes (λ i. omega (arith, c.type_inv.piece i)) in
    let known = rw c.in-Some.is at h.knows in
    record {
      are_bytes = both;
      knows =
          rw c.in-Some.is (λ fault. (
            fault_stays all c.args.piece.now c.in-Some.e both (known fault).1 (known fault).0,
            (known fault).1,
          ));
    }

pub returns-in-Some-clause-fault : goal.returns-in-Some-clause-fault
returns-in-Some-clause-fault c = λ fault all h.
    let both : IsBytes (all ++ c.args.piece.now) =
    IsBytes-append all c.args.piece.now h.are_bytes (λ i. omega (arith, c.type_inv.piece i)) in
    let known = rw c.in-Some.is at h.knows in
    (fault_stays all c.args.piece.now c.in-Some.e both (known fault).1 (known fault).0, (known fault).1)

pub returns-in-Ok-clause-fed : goal.returns-in-Ok-clause-fed
returns-in-Ok-clause-fed c = λ all h.
    let both : IsBytes (all ++ c.args.piece.now) =
    IsBytes-append all c.args.piece.now h.are_bytes (λ i. omega (arith, c.type_inv.piece i)) in
    let before : HasReadBefore c.args.self.now.progress c.args.piece.now (all ++ c.args.piece.now) =
    record { consumed = all; is = refl; has_read = rw c.in-None.is at h.knows } in
    record {
      are_bytes = both;
      knows =
          rw (c.in-Ok.ensures.failed ∙ c.in-None.is)
          (has_read_all c.take.new.self.progress (all ++ c.args.piece.now)
          (c.in-Ok.ensures.ok (all ++ c.args.piece.now) both before));
    }

pub returns-in-Ok-clause-good : goal.returns-in-Ok-clause-good
returns-in-Ok-clause-good c = λ all f h g.
    let both : IsBytes (all ++ c.args.piece.now) =
    IsBytes-append all c.args.piece.now h.are_bytes (λ i. omega (arith, c.type_inv.piece i)) in
    let before : HasReadBefore c.args.self.now.progress c.args.piece.now (all ++ c.args.piece.now) =
    record { consumed = all; is = refl; has_read = rw c.in-None.is at h.knows } in
    let p = c.take.new.self.progress in
    has_read_only p.count p.nest p.room p.held.items (all ++ c.args.piece.now) f
    (has_read_all p (all ++ c.args.piece.now) (c.in-Ok.ensures.ok (all ++ c.args.piece.now) both before)) both g

pub returns-in-Err-clause-fed : goal.returns-in-Err-clause-fed
returns-in-Err-clause-fed c = λ all h.
    let both : IsBytes (all ++ c.args.piece.now) =
    IsBytes-append all c.args.piece.now h.are_bytes (λ i. omega (arith, c.type_inv.piece i)) in
    let before : HasReadBefore c.args.self.now.progress c.args.piece.now (all ++ c.args.piece.now) =
    record { consumed = all; is = refl; has_read = rw c.in-None.is at h.knows } in
    record { are_bytes = both; knows = λ fault. c.in-Err.ensures.err fault (all ++ c.args.piece.now) both before }

pub returns-in-Err-clause-fault : goal.returns-in-Err-clause-fault
returns-in-Err-clause-fault c = λ fault all h.
    let both : IsBytes (all ++ c.args.piece.now) =
    IsBytes-append all c.args.piece.now h.are_bytes (λ i. omega (arith, c.type_inv.piece i)) in
    let before : HasReadBefore c.args.self.now.progress c.args.piece.now (all ++ c.args.piece.now) =
    record { consumed = all; is = refl; has_read = rw c.in-None.is at h.knows } in
    c.in-Err.ensures.err fault (all ++ c.args.piece.now) both before
