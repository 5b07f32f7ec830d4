use Rattle.std.proofs.Common.{◌≡◌, ◌+◌, ◌-◌, ◌*◌, ◌/◌, ◌%◌, ◌<◌, ◌++◌, ℕ, length, take, ap, sym, ◌∙◌, arith}
use Rattle.std.specs.List.{concat}
use Rattle.streams.proofs.Cutting.{prefix_of_last}
use Rattle.streams.proofs.Fields.{bytes_of, parts, many, prefix_joined, prefix_cut}
use Rattle.streams.proofs.bytes.Pieces.truncate.Goals as goal

pub returns-then-len-place : goal.returns-then-len-place
returns-then-len-place c =
    let p = c.self.inside in
    let w : c.len-then-len-place.result ≡ length (parts p) = c.len-then-len-place.ensures ∙ sym (many p) in
    ap (λ t. concat (parts p) ++ t) (c.truncate.ensures.items ∙ ap (λ n. take (c.args.len - 65536 * n) p.last.items) w)
    ∙ prefix_of_last (parts p) p.last.items c.args.len c.self.invariant.each
    (omega (arith, c.if-len-place.true, many p, c.len.ensures))
    ∙ ap (take c.args.len) c.self.view_is

pub invariant_of-self-2 : goal.invariant_of-self-2
invariant_of-self-2 c =
    let n : ℕ = c.args.len / 65536 in
    let r : ℕ = c.args.len % 65536 in
    let within : n < c.self.inside.whole.len = omega (arith, c.if-len-place.false, c.len.ensures) in
    let left = c.truncate-2.ensures.items ∙ ap (take n) c.remove.ensures.items in
    rw c.truncate-3.ensures.items (prefix_cut c.self.inside c.self.invariant n r c.remove.result
    c.truncate-2.new.self.items within (omega arith) c.remove.ensures.value left)

pub returns : goal.returns
returns c =
    let p = c.self.inside in
    let n : ℕ = c.args.len / 65536 in
    let r : ℕ = c.args.len % 65536 in
    let within : n < p.whole.len = omega (arith, c.if-len-place.false, c.len.ensures) in
    let left = c.truncate-2.ensures.items ∙ ap (take n) c.remove.ensures.items in
    let is : 65536 * n + r ≡ c.args.len = omega arith in
    ap (λ t. concat (bytes_of c.truncate-2.new.self.items) ++ t) c.truncate-3.ensures.items
    ∙ prefix_joined p c.self.invariant n r c.remove.result c.truncate-2.new.self.items within (omega arith)
    c.remove.ensures.value left
    ∙ ap (λ k. take k (concat (parts p) ++ p.last.items)) is
    ∙ ap (take c.args.len) c.self.view_is
