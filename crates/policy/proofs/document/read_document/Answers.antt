use Rattle.std.proofs.Common.{inr, refl, arith}
use Rattle.std.proofs.lemmas.Bool.{false≢true}
use Rattle.policy.proofs.Documents.{document-present, document-none}
use Rattle.policy.proofs.document.read_document.Goals as goal

pub returns-in-Ok-clause-ok : goal.returns-in-Ok-clause-ok
returns-in-Ok-clause-ok c = document-present _ _ (omega arith) c.in-Ok.ensures.ok.0 c.in-Ok.ensures.ok.1

pub returns-else-is_memory-clause-err : goal.returns-else-is_memory-clause-err
returns-else-is_memory-clause-err c =
    inr (
      refl,
      document-none _ (omega arith)
          (c.in-Err.ensures.refused (λ m. absurd (false≢true (c.if-is_memory.ensures.1 m)))),
    )
