use Rattle.std.proofs.Common.{◌≡◌, ◌∙◌, Ok, Err, Result, IfSome, sym, subst}
use Rattle.std.specs.Result.{MatchResult, result_ok}
use Rattle.tables_outline.proofs.Orders.{bytes_antisymmetric}
use Rattle.tables_outline.proofs.shared_texts.equal_path.Goals as goal

some_ok : {T E : Type 0} (r : Result T E) (P Q : T → Type 0) (R : E → Type 0) → MatchResult r P R
    → ((t : T) → P t → Q t) → IfSome (result_ok r) Q
some_ok (Ok t) P Q R h f = f t h
some_ok (Err e) P Q R h f = tt

pub returns : goal.returns
returns c = subst (λ o. IfSome o (λ it. it ≡ c.args.path.now)) (sym c.ok-2.ensures.value)
    (some_ok c.clone-2.result (λ copy. copy ≡ c.in_ok-key.key.now) (λ it. it ≡ c.args.path.now) (λ x. ¬ ⊥)
    c.clone-2.ensures.cases
    (λ copy is. is ∙ sym (bytes_antisymmetric c.args.path.now c.in_ok-key.key.now c.in_ok-key.ensures.same_key)))
