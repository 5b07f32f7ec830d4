use Rattle.std.proofs.Common.{◌≡◌, map, subst, ◌∙◌, ◌↔◌, arith, take_all}
use Rattle.std.specs.Prelude.{Contains}
use Rattle.std.specs.List.{dedup}
use Rattle.std.specs.Cmp.Lexicographic.{on_texts, texts_ties}
use Rattle.std.proofs.lemmas.List.Filters.{dedup_is}
use Rattle.std.proofs.lemmas.List.Kept.{IsStrictlySortedBy-dedup}
use Rattle.paths.proofs.Order.{read, same_text, rising-read, same-read}
use Rattle.paths.proofs.computed_path.in_path_order.Goals as goal

pub returns : goal.returns
returns c =
    let sorted = c.sort_unstable.new.self.items in
    let kept : c.dedup.new.self.items ≡ dedup same_text sorted = dedup_is same_text _ _ c.dedup.ensures.filtered in
    let read_all : map read c.loop-path.bases.items ≡ c.args.refs.now =
    c.loop-path.invariant ∙ take_all c.loop-path.path-index c.args.refs.now (omega arith) in
    rw kept (record {
      rising =
          rising-read (dedup same_text sorted)
          (IsStrictlySortedBy-dedup (on_texts read) (λ x y. texts_ties x.now y.now) _ c.sort_unstable.ensures.sorted);
      same =
          λ r. subst (λ xs. Contains (map read (dedup same_text sorted)) r ↔ Contains xs r) read_all
          (same-read c.loop-path.bases.items sorted r c.sort_unstable.ensures.permutation);
    })
