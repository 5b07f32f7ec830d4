use Rattle.std.proofs.Common.{◌≡◌, ℕ, List, Bool, IsSorted, sym, subst, ◌∙◌}
use Rattle.std.specs.Prelude.{Contains, IsPermutation, nat_eq}
use Rattle.std.specs.List.{dedup}
use Rattle.std.specs.Cmp.Lexicographic.{pointwise, texts_ties, nat_list_eq_equiv, nat_list_cmp_total}
use Rattle.std.proofs.lemmas.List.Filters.{dedup_is}
use Rattle.std.proofs.lemmas.List.Kept.{IsStrictlySortedBy-dedup, Any-dedup, Contains-from_dedup}
use Rattle.std.proofs.lemmas.List.Sorted.{Contains-permutation, IsPermutation-sym}
use Rattle.std.proofs.lemmas.Slice.Eq.{bytes_eq-Decides}
use Rattle.paths.specs.Root.{bytes_cmp}
use Rattle.paths.specs.Path.{InPathOrder, in_path_order}
use Rattle.paths.proofs.PathOrder.{in_path_order-is}
use Rattle.store_adds.proofs.references.in_order.Goals as goal

abbrev Path : Type 0
Path = List ℕ

abbrev same_path : Path → Path → Bool
same_path x y = pointwise nat_eq x y

-- sorted, and each once
ordered_is : (before sorted : List Path) → IsPermutation before sorted → IsSorted bytes_cmp sorted
    → InPathOrder before (dedup same_path sorted)
ordered_is before sorted moved rises = record {
  rising = IsStrictlySortedBy-dedup nat_list_cmp_total (λ x y. texts_ties x y) sorted rises;
  same = λ r. (
    λ h. Contains-permutation _ _ r (IsPermutation-sym _ _ moved) (Contains-from_dedup same_path sorted r h),
    λ h.
        let kept = Any-dedup nat_list_eq_equiv sorted r (Contains-permutation _ _ r moved h) in
        let same = (bytes_eq-Decides r kept.1).0 kept.4 in
        subst (Contains (dedup same_path sorted)) (sym same) (kept.0, kept.2, kept.3),
  );
}

pub returns : goal.returns
unfolding in_path_order
returns c =
    let sorted = c.sort_unstable.new.self.items in
    let kept : c.dedup.new.self.items ≡ dedup same_path sorted = dedup_is same_path _ _ c.dedup.ensures.filtered in
    kept ∙ sym (in_path_order-is c.args.refs.items (dedup same_path sorted)
    (ordered_is c.args.refs.items sorted c.sort_unstable.ensures.permutation c.sort_unstable.ensures.sorted))
