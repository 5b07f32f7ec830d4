use Rattle.std.proofs.Common.{◌≡◌, ◌+◌, List, [], ◌∷◌, ◌++◌, Bool, ap, ap₂, sym, arith, ◌∙◌}
use Rattle.std.specs.Prelude.{is_some}
use Rattle.std.proofs.lemmas.List.FromFn.{map-range_with_len_more}
use Rattle.live.specs.Marks.{first_of}
use Rattle.store_reach.proofs.liveness.flags.Goals as goal

pub loop-place-preserved : goal.loop-place-preserved
loop-place-preserved c =
    let n = c.loop-place.place in
    let zero : 0 + n ≡ n = omega arith in
    c.in_ok-push.ensures.items ∙ ap₂ (λ (xs : List Bool) (b : Bool). xs ++ b ∷ []) c.loop-place.invariant
    (c.is_some.ensures ∙ ap is_some c.first_root.ensures)
    ∙ sym (map-range_with_len_more (λ i. is_some (first_of c.args.marks.now i)) 0 n n zero)
