use Rattle.std.proofs.Common.{refl, inl, inr}
use Rattle.std.proofs.KnownBytes.{Keeps-refl}
use Rattle.std.proofs.lemmas.Result.{err_from_is_err_and}
use Rattle.wire.proofs.Seen.{over_from, over_settings}
use Rattle.wire.proofs.listener.serve_on.Goals as goal

pub returns-clause-served : goal.returns-clause-served
returns-clause-served g c = inl c.serve_on.ensures

pub returns-clause-settings : goal.returns-clause-settings
returns-clause-settings g c =
    over_settings g.S.Store c.args.store.now c.serve_on.new.state c.args.connections _ _ c.serve_on.result
    (inl c.serve_on.ensures)

pub returns-clause-worlds : goal.returns-clause-worlds
returns-clause-worlds g c =
    over_from g.S.Store c.args.store.now c.serve_on.new.state c.args.connections _ _ c.serve_on.result
    (inl c.serve_on.ensures)

pub returns-in_err-server-clause-served : goal.returns-in_err-server-clause-served
returns-in_err-server-clause-served g c =
    let p = err_from_is_err_and c.from_residual.result c.from_residual.ensures.1 in
    rw p.1 (inr (p.2, refl, Keeps-refl _))

pub returns-in_err-server-clause-worlds : goal.returns-in_err-server-clause-worlds
returns-in_err-server-clause-worlds g c =
    let p = err_from_is_err_and c.from_residual.result c.from_residual.ensures.1 in
    rw p.1 (λ w reported. (w, reported, λ clean. inr (p.2, refl, Keeps-refl _)))
