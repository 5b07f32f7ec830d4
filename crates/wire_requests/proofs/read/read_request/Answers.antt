use Rattle.std.proofs.Common.{◌≡◌, ◌∙◌, sym, ap, subst}
use Rattle.wire_requests.specs.Asks.{is_blank}
use Rattle.wire_requests.specs.Kept.{Represents, allows}
use Rattle.wire_requests.specs.Reads.{Reads}
use Rattle.wire_requests.proofs.Blanks.{blank_allows}
use Rattle.wire_requests.proofs.Parting.{reads_made}
use Rattle.wire_requests.proofs.read.read_request.Goals as goal

pub returns-in-Bare : goal.returns-in-Bare
returns-in-Bare c = λ target all are kept.
    let here = subst (λ body. Represents body all) (sym c.into_kept.ensures ∙ c.in-Bare.is) kept in
    let says : is_blank all ≡ c.is_blank.result = blank_allows all ∙ ap allows (sym here) ∙ sym c.is_blank.ensures in
    reads_made c.args.dir.now c.args.kind target all c.read_bare.result
    (c.read_bare.ensures c.args.dir.now all says target are)

pub returns-in-Whole : goal.returns-in-Whole
returns-in-Whole c = λ target all are kept.
    let here = subst (λ body. Represents body all) (sym c.into_kept.ensures ∙ c.in-Whole.is) kept in
    let whole = c.into_bytes.ensures.bytes ∙ here in
    reads_made c.args.dir.now c.args.kind target all c.read_whole.result
    (subst (λ body. Reads c.args.dir.now c.args.kind target body c.read_whole.result) whole
    (c.read_whole.ensures target are))

pub returns-in-Parted : goal.returns-in-Parted
returns-in-Parted c =
    λ target all are kept. c.read_parted.ensures target all
    (subst (λ body. Represents body all) (sym c.into_kept.ensures ∙ c.in-Parted.is) kept)
