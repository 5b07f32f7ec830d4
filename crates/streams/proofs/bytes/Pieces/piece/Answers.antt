use Rattle.std.proofs.Common.{◌≡◌, ◌++◌, length, ap, ◌∙◌, arith}
use Rattle.std.specs.List.{concat}
use Rattle.streams.specs.Cut.{piece_of}
use Rattle.streams.proofs.Cutting.{last_piece}
use Rattle.streams.proofs.Fields.{parts, part_at, many, counted_by}
use Rattle.streams.proofs.bytes.Pieces.piece.Goals as goal

pub returns-then-i-len : goal.returns-then-i-len
returns-then-i-len c =
    c.as_slice.ensures.value
    ∙ part_at c.self.inside c.self.invariant c.args.i c.index.result.now (omega (arith, c.if-i-len.true, c.len.ensures))
    c.index.ensures
    ∙ ap (piece_of c.args.i) c.self.view_is

pub returns-else-i-len : goal.returns-else-i-len
returns-else-i-len c =
    let p = c.self.inside in
    let i : length (parts p) ≡ c.args.i =
    omega (
      arith,
      many p,
      counted_by p c.self.invariant,
      c.self.invariant.last_fits,
      p.last.ok.0,
      c.len.ensures,
      c.if-i-len.false,
      c.requires,
      ap length c.self.view_is,
    ) in
    c.as_slice-else-i-len.ensures.value
    ∙ last_piece (parts p) p.last.items c.self.invariant.each c.self.invariant.last_fits
    ∙ ap (λ n. piece_of n (concat (parts p) ++ p.last.items)) i
    ∙ ap (piece_of c.args.i) c.self.view_is
