use Rattle.std.proofs.lemmas.Result.{err_from_is_err_and}
use Rattle.wire_server.proofs.Ends.{unserved}
use Rattle.wire.specs.Answers.{Answers}
use Rattle.wire.specs.Worlds.{AnswersFrom, AnswersSome}
use Rattle.wire.proofs.Seen.{served_from, served_some, served_settings}
use Rattle.wire.proofs.connection.serve.Goals as goal

pub returns-clause-settings : goal.returns-clause-settings
returns-clause-settings g c =
    served_settings g.S.Store c.args.store.now c.serve.new.state _ _ _ _ c.serve.result c.serve.ensures

pub returns-clause-worlds : goal.returns-clause-worlds
returns-clause-worlds g c =
    served_from g.S.Store c.args.store.now c.serve.new.state _ _ _ _ c.serve.result c.serve.ensures

pub returns-clause-replies : goal.returns-clause-replies
returns-clause-replies g c =
    served_some g.S.Store c.args.store.now c.serve.new.state _ _ _ _ c.serve.result c.serve.ensures

pub returns-in_err-server-clause-served : goal.returns-in_err-server-clause-served
returns-in_err-server-clause-served g c =
    let p = err_from_is_err_and c.from_residual.result c.from_residual.ensures.1 in
    rw (p.1, p.2) (unserved (Answers g.S.Store) _ _ c.args.store.now)

pub returns-in_err-server-clause-worlds : goal.returns-in_err-server-clause-worlds
returns-in_err-server-clause-worlds g c =
    let p = err_from_is_err_and c.from_residual.result c.from_residual.ensures.1 in
    rw (p.1, p.2) (λ w reported. (w, reported, λ clean. unserved (AnswersFrom c.args.store.now.settings) _ _ w))

pub returns-in_err-server-clause-replies : goal.returns-in_err-server-clause-replies
returns-in_err-server-clause-replies g c =
    let p = err_from_is_err_and c.from_residual.result c.from_residual.ensures.1 in
    rw (p.1, p.2) (unserved (AnswersSome c.args.store.now.settings) _ _ tt)
