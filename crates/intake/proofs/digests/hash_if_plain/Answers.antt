use Rattle.std.proofs.Common.{◌≡◌, true, false, cond, Some, None, ap, sym, ◌∙◌}
use Rattle.sha2.specs.Sha256.{sha256}
use Rattle.intake.specs.Contents.{begins_plain, contents_so_far}
use Rattle.intake.proofs.Growing.{begins_by_first}
use Rattle.intake.proofs.digests.hash_if_plain.Goals as goal

pub returns-then-not-begins_plain : goal.returns-then-not-begins_plain
returns-then-not-begins_plain c = λ known.
    let all = c.args.pieces.now in
    let other : begins_plain all ≡ false =
    sym (begins_by_first c.first.result.now all c.first.ensures) ∙ sym c.begins_plain.ensures
    ∙ c.if-not-begins_plain.true in
    sym (ap (λ b. cond b (Some (sha256 (contents_so_far all))) None) other)

pub returns : goal.returns
returns c = λ known.
    let all = c.args.pieces.now in
    let plain : begins_plain all ≡ true =
    sym (begins_by_first c.first.result.now all c.first.ensures) ∙ sym c.begins_plain.ensures
    ∙ c.if-not-begins_plain.false in
    ap Some (c.contents_hash.ensures known) ∙ sym (ap (λ b. cond b (Some (sha256 (contents_so_far all))) None) plain)
