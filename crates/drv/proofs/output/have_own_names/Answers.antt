use Rattle.std.proofs.Common.{◌≡◌, ◌∙◌, map, length, eqb, ap, arith, take_all, sym, string_bytes}
use Rattle.std.specs.List.{dedup}
use Rattle.std.specs.Cmp.Lexicographic.{on_texts, texts_ties}
use Rattle.std.proofs.lemmas.List.{length-map}
use Rattle.std.proofs.lemmas.List.Filters.{dedup_is}
use Rattle.std.proofs.lemmas.List.Kept.{IsStrictlySortedBy-dedup}
use Rattle.drv.specs.View.{view, views}
use Rattle.drv.proofs.OwnNames.{Refer, read, same_text, names_of_views, count_decides}
use Rattle.drv.proofs.output.have_own_names.Goals as goal

pub returns : goal.returns
returns c =
    let outputs = c.args.outputs.now in
    let names = c.loop-output.names.items in
    let sorted = c.sort_unstable.new.self.items in
    let all : map read names ≡ map (λ o. string_bytes o.name) outputs =
    c.loop-output.invariant ∙ ap (map (λ o. string_bytes o.name))
    (take_all c.loop-output.output-index outputs (omega arith)) in
    let refer : Refer names (views outputs) = all ∙ names_of_views outputs in
    let kept : c.dedup.new.self.items ≡ dedup same_text sorted = dedup_is same_text _ _ c.dedup.ensures.filtered in
    let count : c.len.result ≡ length (dedup same_text sorted) =
    omega (arith, c.len.ensures, c.dedup.new.self.ok.0, ap length kept) in
    let many : length outputs ≡ length (views outputs) = sym (length-map outputs view) in
    ap (λ n. eqb n (length outputs)) count ∙ ap (λ n. eqb (length (dedup same_text sorted)) n) many
    ∙ count_decides names sorted (views outputs) refer c.sort_unstable.ensures.permutation
    (IsStrictlySortedBy-dedup (on_texts read) (λ x y. texts_ties x.now y.now) _ c.sort_unstable.ensures.sorted)
