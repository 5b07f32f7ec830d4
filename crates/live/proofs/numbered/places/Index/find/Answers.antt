use Rattle.std.proofs.Common.{◌≡◌, ◌∙◌, ◌<◌, ap, arith, length, subst, List, Some, ℕ}
use Rattle.std.specs.Borrow.{Bor}
use Rattle.std.specs.Cmp.Lexicographic.{pointwise}
use Rattle.std.specs.Prelude.{nat_eq}
use Rattle.live.specs.Arguments.{rows_view}
use Rattle.live.specs.Numbering.{Row, paths_of, place_of}
use Rattle.live.proofs.Texts.{found}
use Rattle.live.proofs.numbered.places.Index.find.Goals as goal

pub returns-then-eq : goal.returns-then-eq
returns-then-eq c =
    let below : c.args.guess < length c.self.inside.texts.items =
    (let t = c.if-guess-len.true in let e = c.len.ensures in let o = c.self.inside.texts.ok in omega arith) in
    subst (λ (rows : List Row). Some c.args.guess ≡ place_of (paths_of rows) c.args.path.now) c.self.view_is
    (found (paths_of (rows_view c.self.inside.rows.now)) c.self.invariant.headed.rise c.self.inside.texts.items
    c.self.invariant.texts c.args.guess below c.index.result.now c.as_str.result.now c.args.path.now c.eq.result
    (c.eq.ensures ∙ ap (λ (t : Bor (List ℕ)). pointwise nat_eq t.now c.as_str.result.now) c.index.ensures)
    c.if-eq.true c.as_str.ensures.value)

pub returns : goal.returns
returns c = c.place_between.ensures ∙ ap (λ (rows : List Row). place_of (paths_of rows) c.args.path.now) c.self.view_is
