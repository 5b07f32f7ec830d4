use Rattle.std.proofs.Common.{◌++◌, [], ◌∷◌, ap, ◌∙◌}
use Rattle.std.specs.List.{concat}
use Rattle.streams.proofs.Fields.{bytes_of, full_joined, full_cut}
use Rattle.streams.proofs.bytes.push_piece.Goals as goal

pub returns-in-Ok-clause-cut : goal.returns-in-Ok-clause-cut
returns-in-Ok-clause-cut c =
    let next = ap (λ v. v.items) c.replace-full.ensures.after in
    let pushed = (c.in-Ok.ensures).items ∙ ap (λ v. c.args.whole.now.items ++ v ∷ []) c.replace-full.ensures.value in
    rw pushed (rw next (full_cut c.args.whole.now.items c.args.last.now c.args.next.items c.requires.cut c.requires.full
    c.requires.fits c.requires.small))

pub returns-in-Ok-clause-ok : goal.returns-in-Ok-clause-ok
returns-in-Ok-clause-ok c =
    let next = c.replace-full.new.dest.items in
    ap (λ vs. concat (bytes_of vs) ++ next)
    ((c.in-Ok.ensures).items ∙ ap (λ v. c.args.whole.now.items ++ v ∷ []) c.replace-full.ensures.value)
    ∙ full_joined c.args.whole.now.items c.args.last.now next
    ∙ ap (λ v. (concat (bytes_of c.args.whole.now.items) ++ c.args.last.now.items) ++ v.items)
    c.replace-full.ensures.after
