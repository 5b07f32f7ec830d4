use Rattle.std.proofs.Common.{◌∷◌, refl, [], arith}
use Rattle.std.specs.Prelude.{codes}
use Rattle.std.proofs.lemmas.Result.{err_from_is_err_and}
use Rattle.nar.specs.Archive.{other}
use Rattle.nar.specs.Steps.{word, any}
use Rattle.nar.proofs.Taking.{string_err, read_part, reads_then, fault_then}
use Rattle.nar.proofs.reader.text_of.Goals as goal

pub returns-in_err-text-clause-err : goal.returns-in_err-text-clause-err
returns-in_err-text-clause-err c =
    let p = err_from_is_err_and c.from_residual.result c.from_residual.ensures.1 in
    rw (p.1, p.2) (string_err any (word (codes ")") ∷ []) c.args.at.room c.args.at.rest.now c.in_err-text.field-0.0
    c.in_err-text.ensures.err)

pub returns-in_err-at-clause-err : goal.returns-in_err-at-clause-err
returns-in_err-at-clause-err c =
    let p = err_from_is_err_and c.from_residual-in_err-at.result c.from_residual-in_err-at.ensures.1 in
    rw (p.1, p.2) (fault_then (any ∷ word (codes ")") ∷ []) (word (codes ")") ∷ []) (other c.in_ok-text.text.now ∷ [])
    c.in_err-at.field-0.0 (omega arith) (read_part (other c.in_ok-text.text.now) tt c.in_ok-text.ensures.ok)
    (λ κ. refl) c.in_err-at.ensures.err)

pub returns-clause-ok : goal.returns-clause-ok
returns-clause-ok c =
    reads_then (read_part (other c.in_ok-text.text.now) tt c.in_ok-text.ensures.ok) c.in_ok-at.ensures.ok
