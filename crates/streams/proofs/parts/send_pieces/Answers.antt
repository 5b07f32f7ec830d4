use Rattle.std.proofs.Common.{ℕ, List, Option, Result, Ok, Err, IsErrAnd, arith, subst}
use Rattle.std.proofs.KnownBytes.{Appends-nil}
use Rattle.std.specs.Io.KnownBytes.{Appends}
use Rattle.std.specs.declared.io.Error.{Error}
use Rattle.streams.proofs.InPieces.{next_sent, prefix_sent, take_all_pieces}
use Rattle.streams.specs.Sends.{Sends, AppendsPrefix}
use Rattle.streams.proofs.parts.send_pieces.Goals as goal

-- a prefix was written where an error is the answer, whichever
failed_sends : (a b : Option (List ℕ)) (bytes : List ℕ) (r : Result (Unit {0}) Error) (Q : Error → Type 0)
    → IsErrAnd r Q → AppendsPrefix a b bytes
    → Sends a b bytes r
failed_sends a b bytes (Ok done) Q fails sent = absurd fails
failed_sends a b bytes (Err fault) Q fails sent = sent

pub pieces-init : goal.pieces-init
pieces-init g c = Appends-nil (g.W.Write.contents c.args.output.now)

pub pieces-preserved : goal.pieces-preserved
pieces-preserved g c =
    next_sent _ _ _ c.args.bytes.now c.pieces.i c.piece.result.now c.piece.ensures c.pieces.invariant
    c.in_ok-send_bytes.ensures

pub returns-in_err-send_bytes : goal.returns-in_err-send_bytes
returns-in_err-send_bytes g c =
    failed_sends _ _ c.args.bytes.now c.from_residual.result _ c.from_residual.ensures.1
    (prefix_sent _ _ _ c.args.bytes.now c.pieces.i c.piece.result.now c.piece.ensures c.pieces.invariant
    c.in_err-send_bytes.ensures)

pub returns : goal.returns
returns g c =
    subst (Appends (g.W.Write.contents c.args.output.now) (g.W.Write.contents c.pieces.output))
    (take_all_pieces c.args.bytes.now c.pieces.i (omega arith)) c.pieces.invariant
