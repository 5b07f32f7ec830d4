use Rattle.std.proofs.Common.{refl, inl, inr}
use Rattle.std.proofs.lemmas.Result.{err_from_is_err_and}
use Rattle.wire_server.proofs.exchange.answer_next.Goals as goal

pub returns-in-End : goal.returns-in-End
returns-in-End g c = λ n all rest is. let here = rw c.in-End.is at is in (here.0, here.1, refl)

pub returns-in_ok-exchange-in-Message : goal.returns-in_ok-exchange-in-Message
returns-in_ok-exchange-in-Message g c =
    λ n all rest is. inl (c.in_ok-exchange-in-Message.ensures n all (rw c.in-Message.is at is))

pub returns-in_err-exchange-in-Message : goal.returns-in_err-exchange-in-Message
returns-in_err-exchange-in-Message g c = λ n all rest is.
    let p = err_from_is_err_and c.from_residual.result c.from_residual.ensures.1 in
    rw p.1 (c.in_err-exchange-in-Message.ensures n all (rw c.in-Message.is at is))

pub returns-in_ok-refused-in-Faulty : goal.returns-in_ok-refused-in-Faulty
returns-in_ok-refused-in-Faulty g c = λ n all rest is. let here =
    rw c.in-Faulty.is at is in
    inr ((c.in-Faulty.fault, here.0, here.1, here.2, c.in_ok-refused-in-Faulty.ensures), refl)

pub returns-in_err-refused-in-Faulty : goal.returns-in_err-refused-in-Faulty
returns-in_err-refused-in-Faulty g c = λ n all rest is.
    let p =
    err_from_is_err_and c.from_residual-in_err-refused-in-Faulty.result
    c.from_residual-in_err-refused-in-Faulty.ensures.1 in
    rw p.1 (inl refl)
