use Rattle.std.proofs.Common.{◌∷◌, refl, [], arith}
use Rattle.std.specs.Prelude.{codes}
use Rattle.nar.specs.Steps.{word, any}
use Rattle.nar.proofs.Trees.{tree-symlink}
use Rattle.nar.proofs.Taking.{reads_then, fault_then, fault_more, passed_on}
use Rattle.nar.proofs.reader.symlink_of.Goals as goal

pub returns-in_err-after-clause-err : goal.returns-in_err-after-clause-err
returns-in_err-after-clause-err c =
    passed_on _ _ _ c.from_residual.ensures.1
    (fault_more (word (codes "target")) (any ∷ word (codes ")") ∷ []) _ _ _ c.in_err-after.ensures.err)

pub returns-in_err-target-clause-err : goal.returns-in_err-target-clause-err
returns-in_err-target-clause-err c = passed_on _ _ _ c.from_residual-in_err-target.ensures.1
    (fault_then (word (codes "target") ∷ any ∷ word (codes ")") ∷ []) (any ∷ word (codes ")") ∷ []) _ _ (omega arith)
    c.in_ok-after.ensures.ok (λ κ. refl) c.in_err-target.ensures.err)

pub returns-clause-ok : goal.returns-clause-ok
returns-clause-ok c =
    λ depth. rw (tree-symlink c.in_ok-target.target)
    (record {
      is_kind = refl;
      named = c.in_ok-target.ensures.ok.are_bytes.0;
      parts = reads_then c.in_ok-after.ensures.ok c.in_ok-target.ensures.ok;
    })
