use Rattle.std.proofs.Common.{sym, subst}
use Rattle.wire_requests.specs.Reads.{Reads}
use Rattle.wire_requests.proofs.read.read_whole.Goals as goal

pub returns-in-AddText : goal.returns-in-AddText
returns-in-AddText c =
    λ target are. subst (λ k. Reads c.args.dir.now k target c.args.body.items c.add_text.result) (sym c.in-AddText.is)
    (c.add_text.ensures target)

pub returns-in_default : goal.returns-in_default
returns-in_default c =
    λ target are. subst (λ body. Reads c.args.dir.now c.args.kind target body c.read_lines.result) c.deref.ensures.value
    (c.read_lines.ensures target are)
