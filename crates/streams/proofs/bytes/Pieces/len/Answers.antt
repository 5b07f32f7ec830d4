use Rattle.std.proofs.Common.{◌+◌, ◌*◌, length, ap, ◌∙◌, arith}
use Rattle.streams.proofs.Fields.{counted_by, small_by}
use Rattle.streams.proofs.bytes.Pieces.len.Goals as goal

pub overflow_mul-result : goal.overflow_mul-result
overflow_mul-result c = omega (arith, small_by c.self.inside c.self.invariant, c.len.ensures)

pub overflow_add-result : goal.overflow_add-result
overflow_add-result c = omega (arith, small_by c.self.inside c.self.invariant, c.len.ensures, c.len-2.ensures)

pub returns : goal.returns
returns c =
    ap (λ n. n * 65536 + c.len-2.result) c.len.ensures
    ∙ ap (λ n. c.self.inside.whole.len * 65536 + n) c.len-2.ensures
    ∙ counted_by c.self.inside c.self.invariant
    ∙ ap length c.self.view_is
