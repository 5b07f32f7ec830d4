use Rattle.std.proofs.Common.{◌≤◌, length, take, ap, ◌∙◌, arith, length-append}
use Rattle.std.specs.Result.{is_ok}
use Rattle.streams.proofs.Cutting.{front}
use Rattle.streams.proofs.Fields.{grown_cut}
use Rattle.streams.proofs.bytes.Pieces.push.Goals as goal

pub invariant_of-self : goal.invariant_of-self
invariant_of-self c =
    rw c.extend_from_slice.ensures.items
    (grown_cut (is_ok c.extend_from_slice.result) c.self.inside.whole.items c.self.inside.last.items
    c.args.bytes.now c.self.invariant
    (omega (arith, c.if-bytes-len.true, c.len.ensures, c.self.inside.last.ok.0)))

pub fill-requires-clause-small : goal.fill-requires-clause-small
fill-requires-clause-small c =
    omega (
      arith,
      ap length c.pieces.invariant.same,
      length-append c.pieces.self c.pieces.rest.now,
      length-append c.args.self.now c.args.bytes.now,
      c.len-before.ensures,
    )

pub truncate-requires : goal.truncate-requires
truncate-requires c =
    omega (
      arith,
      ap length c.pieces.invariant.same,
      ap length c.in-Err.ensures.err,
      c.pieces.invariant.fewer,
      length-append c.pieces.self c.pieces.rest.now,
      length-append c.args.self.now c.args.bytes.now,
      c.len-before.ensures,
    )

pub returns-in-Err-clause-err : goal.returns-in-Err-clause-err
returns-in-Err-clause-err c =
    let old = c.args.self.now in
    let s = c.pieces.self in
    let le : length old ≤ length s =
    omega (
      arith,
      ap length c.pieces.invariant.same,
      c.pieces.invariant.fewer,
      length-append s c.pieces.rest.now,
      length-append old c.args.bytes.now,
    ) in
    c.truncate.ensures
    ∙ ap (take c.len-before.result) c.in-Err.ensures.err
    ∙ ap (λ n. take n s) c.len-before.ensures
    ∙ front s c.pieces.rest.now old c.args.bytes.now c.pieces.invariant.same le
