use Rattle.std.proofs.Common.{ℕ, ◌<◌, List, [], ◌∷◌, ◌++◌, length, map, take, ap, ◌∙◌, sym, arith}
use Rattle.std.specs.Borrow.{Bor}
use Rattle.std.proofs.lemmas.List.{map-append, take_more, take_all}
use Rattle.live.specs.Arguments.{rows_view}
use Rattle.live.specs.Numbering.{paths_of}
use Rattle.live.proofs.Headed.{path_of_row, rows_count}
use Rattle.live.proofs.numbered.texts.texts_of.Goals as goal

pub loop-row-preserved : goal.loop-row-preserved
loop-row-preserved c =
    let at = path_of_row c.args.rows.now c.loop-row.row-index c.row-item.result c.loop-row-test.true c.row-item.is in
    let below : c.loop-row.row-index < length (paths_of (rows_view c.args.rows.now)) =
    (let n = rows_count c.args.rows.now in let t = c.loop-row-test.true in omega arith) in
    ap (map (λ (t : Bor (List ℕ)). t.now)) c.in_ok-push.ensures.items
    ∙ map-append (λ (t : Bor (List ℕ)). t.now) c.loop-row.texts.items (c.as_str.result ∷ [])
    ∙ ap (λ (xs : List (List ℕ)). xs ++ c.as_str.result.now ∷ []) c.loop-row.invariant
    ∙ ap (λ (p : List ℕ). take c.loop-row.row-index (paths_of (rows_view c.args.rows.now)) ++ p ∷ [])
    (c.as_str.ensures.value ∙ at)
    ∙ sym (take_more (paths_of (rows_view c.args.rows.now)) c.loop-row.row-index [] below)

pub returns : goal.returns
returns c = record {
  are =
      c.loop-row.invariant ∙ take_all c.loop-row.row-index (paths_of (rows_view c.args.rows.now))
      (let n = rows_count c.args.rows.now in let t = c.loop-row-test.false in omega arith);
}
