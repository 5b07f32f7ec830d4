use Rattle.std.proofs.Common.{◌≡◌, ◌+◌, ◌∷◌, drop, length, arith, not, sym, ap, ◌∙◌, List}
use Rattle.std.specs.FinMap as finite
use Rattle.paths.specs.Root.{bytes_cmp}
use Rattle.live.specs.Graph.{holds}
use Rattle.model.specs.World.{Path}
use Rattle.tables_outline.proofs.TakenLinks.{left_at, none_left}
use Rattle.tables_outline.specs.Outline.{Outlined}
use Rattle.tables_outline.proofs.Orders.{bytes_total, bytes_antisymmetric}
use Rattle.tables_outline.proofs.Puts.{retained}
use Rattle.tables_outline.proofs.Retained.{none_gone, one_more}
use Rattle.tables_outline.proofs.object_map.Objects.remove_each.Goals as goal

abbrev without : List Path → finite.FinMap bytes_cmp Outlined → finite.FinMap bytes_cmp Outlined
without ps m = finite.retain_keys m (λ p. not (holds ps p))

next : (p : Path) (ps : List Path) (m : finite.FinMap bytes_cmp Outlined)
    → without ps (finite.remove m p) ≡ without (p ∷ ps) m
next p ps m =
    ap (without ps) (sym (retained bytes_total bytes_antisymmetric m p))
    ∙ one_more bytes_total bytes_antisymmetric (λ (k : Path). k) m p ps

pub loop-path-preserved : goal.loop-path-preserved
loop-path-preserved c =
    let all = c.args.paths.now in
    let item = c.path-item.result in
    let left = drop c.loop-path.path-index all in
    let rest = drop (c.loop-path.path-index + 1) all in
    let split : left ≡ item ∷ rest = left_at all c.loop-path.path-index item c.loop-path-test.true c.path-item.is in
    ap (without rest) c.remove.ensures ∙ next item rest c.loop-path.self
    ∙ ap (λ (xs : List Path). without xs c.loop-path.self) (sym split) ∙ c.loop-path.invariant

pub returns : goal.returns
returns c =
    let all = c.args.paths.now in
    let end : c.loop-path.path-index ≡ length all = omega arith in
    let none = ap (λ n. drop n all) end ∙ none_left all in
    sym (ap (λ (xs : List Path). without xs c.loop-path.self) none
    ∙ none_gone bytes_total bytes_antisymmetric (λ (k : Path). k) c.loop-path.self) ∙ c.loop-path.invariant
