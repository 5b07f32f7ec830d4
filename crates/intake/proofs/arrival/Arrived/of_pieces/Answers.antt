use Rattle.std.proofs.Common.{◌≡◌, ◌*◌, take, ap, subst, ◌∙◌, arith}
use Rattle.sha2.specs.Hashers.{Holds256}
use Rattle.nar.specs.Checker.{HasBeenFed}
use Rattle.intake.proofs.Hashing.{one_more, all_pieces}
use Rattle.intake.proofs.arrival.Arrived.of_pieces.Goals as goal

pub held-preserved : goal.held-preserved
held-preserved c =
    let bytes = c.args.pieces in
    let before = take (65536 * c.held.i) bytes in
    let next = one_more bytes c.held.i c.piece-piece.result.now c.piece-piece.ensures in
    record {
      fed = subst (HasBeenFed c.feed.new.checker) next (c.feed.ensures.fed before c.held.invariant.fed);
      sound = c.in_ok-feed.ensures.sound;
      hashed = subst (Holds256 c.update.new.self) next (c.update.ensures before c.held.invariant.hashed);
    }

pub returns-clause-reported : goal.returns-clause-reported
returns-clause-reported c =
    let bytes = c.args.pieces in
    let last : c.held.i ≡ c.count-i-end.result = omega arith in
    let all : take (65536 * c.held.i) bytes ≡ bytes =
    ap (λ n. take (65536 * n) bytes) (last ∙ c.count-i-end.ensures) ∙ all_pieces bytes in
    let fed = subst (HasBeenFed c.held.checker) all c.held.invariant.fed in
    record {
      bytes = fed.are_bytes;
      hash = c.finalize.ensures bytes (subst (Holds256 c.held.hasher) all c.held.invariant.hashed);
      contents = tt;
      fault = c.fault_at_end.ensures bytes fed c.held.invariant.sound;
    }
