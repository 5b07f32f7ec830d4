use Rattle.std.proofs.lemmas.Result.{err_from_is_err_and}
use Rattle.streams.proofs.Sending.{prefix-first}
use Rattle.wire_server.proofs.Both.{sends_second}
use Rattle.wire_server.proofs.exchange.send_both.Goals as goal

pub returns : goal.returns
returns g c =
    sends_second _ _ _ c.args.head.now c.args.text.now c.send_pieces.result c.in_ok-send_bytes.ensures
    c.send_pieces.ensures

pub returns-in_err-send_bytes : goal.returns-in_err-send_bytes
returns-in_err-send_bytes g c =
    let p = err_from_is_err_and c.from_residual.result c.from_residual.ensures.1 in
    rw p.1 (prefix-first _ _ c.args.head.now c.args.text.now c.in_err-send_bytes.ensures)
