use Rattle.std.proofs.Common.{◌≡◌, ◌∙◌, ap, ◌++◌, subst}
use Rattle.std.proofs.lemmas.Result.{err_from_is_err_and}
use Rattle.std.specs.Io.KnownBytes.{Appends}
use Rattle.streams.specs.Sends.{AppendsPrefix}
use Rattle.wire_server.specs.Responses.{replied, reply_bytes}
use Rattle.wire_server.proofs.exchange.send_reply.Goals as goal

pub returns : goal.returns
returns g c =
    let whole : c.as_bytes.result.now ++ c.args.response.now.text
    ≡ reply_bytes c.args.close (replied c.args.response.now) =
    ap (λ t. t ++ c.args.response.now.text) (c.as_bytes.ensures.value ∙ c.in_ok-head.ensures) in
    subst (Appends (g.W.Write.contents c.args.output.now) (g.W.Write.contents c.send_both.new.output)) whole
    c.in_ok-send_both.ensures

pub returns-in_err-send_both : goal.returns-in_err-send_both
returns-in_err-send_both g c =
    let whole : c.as_bytes.result.now ++ c.args.response.now.text
    ≡ reply_bytes c.args.close (replied c.args.response.now) =
    ap (λ t. t ++ c.args.response.now.text) (c.as_bytes.ensures.value ∙ c.in_ok-head.ensures) in
    let p = err_from_is_err_and c.from_residual-in_err-send_both.result c.from_residual-in_err-send_both.ensures.1 in
    rw (p.1, p.2) (subst (AppendsPrefix (g.W.Write.contents c.args.output.now)
    (g.W.Write.contents c.send_both.new.output)) whole c.in_err-send_both.ensures)
