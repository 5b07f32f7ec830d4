use Rattle.std.proofs.Common.{◌++◌, take, ap, ◌∙◌}
use Rattle.std.specs.List.{concat}
use Rattle.streams.proofs.Fields.{bytes_of, joined_more}
use Rattle.streams.proofs.bytes.Pieces.joined.Goals as goal

pub loop-piece-preserved : goal.loop-piece-preserved
loop-piece-preserved c =
    let vs = c.deref-piece-items.result.now in
    let so_far = concat (bytes_of (take c.loop-piece.piece-index vs)) in
    (c.in_ok-extend_from_slice.ensures).items
    ∙ ap (λ t. t ++ c.as_slice.result.now) c.loop-piece.invariant
    ∙ ap (λ t. so_far ++ t) c.as_slice.ensures.value
    ∙ joined_more vs c.loop-piece.piece-index c.piece-item.result c.loop-piece-test.true c.piece-item.is
