use Rattle.std.proofs.Common.{◌∙◌, arith}
use Rattle.std.proofs.lemmas.List.FromFn.{fill_by_all}
use Rattle.paths.specs.Fold.{folded_byte, fold20}
use Rattle.paths.proofs.Folds.{fold_at}
use Rattle.paths.proofs.computed_path.fold20.Goals as goal

pub returns : goal.returns
unfolding fold20
returns c =
    let kept = c.loop-i.invariant in
    fill_by_all (folded_byte c.args.digest.now) c.loop-i.folded 20 0 kept.full
    (λ k h. kept.done k (omega arith) ∙ fold_at c.args.digest.now k c.told-digest h)
