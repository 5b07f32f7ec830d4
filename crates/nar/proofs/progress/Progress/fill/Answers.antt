use Rattle.std.proofs.Common.{◌≡◌, ◌++◌, List, ℕ, sym, ap, ◌∙◌, subst}
use Rattle.std.specs.Global.{Vec}
use Rattle.nar.specs.Feeding.{Fed}
use Rattle.nar.specs.NestView.{symbols_of}
use Rattle.nar.proofs.Taking.{passed_on}
use Rattle.nar.proofs.progress.Progress.fill.Goals as goal

pub returns-in_err-rest-clause-err : goal.returns-in_err-rest-clause-err
returns-in_err-rest-clause-err c =
    let front = c.args.prefix.now in
    let all_held : c.deref.result.now ≡ c.args.self.now.held.items ++ front =
    c.deref.ensures.value ∙ c.in_ok-extend_from_slice.ensures.items
    ∙ ap (λ (v : Vec ℕ). v.items ++ front) c.replace-held.ensures.value in
    passed_on _ _ _ c.from_residual-in_err-rest.ensures.1 (λ fault all fed.
    c.in_err-rest.ensures.err fault all
    (subst (λ (v : List ℕ). Fed (symbols_of c.args.self.now.nest) c.args.self.now.room v all) (sym all_held) fed))
