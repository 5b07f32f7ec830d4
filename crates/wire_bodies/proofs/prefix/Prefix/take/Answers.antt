use Rattle.std.proofs.Common.{◌≡◌, ◌++◌, ap, sym, ◌∙◌, subst, append-nil}
use Rattle.std.proofs.lemmas.List.{take_rest}
use Rattle.wire_bodies.specs.Prefix.{prefix_from, rest_from, prefix_of, rest_of, IsPrefix}
use Rattle.wire_bodies.proofs.Prefixes.{prefix_more, rest_more, is_prefix_more}
use Rattle.wire_bodies.proofs.prefix.Prefix.take.Goals as goal

pub returns-in-AfterPrefix-clause-prefix : goal.returns-in-AfterPrefix-clause-prefix
returns-in-AfterPrefix-clause-prefix c =
    let old = c.self.inside in
    sym c.self.view_is ∙ sym (append-nil old.bytes.items)
    ∙ ap (λ p. old.bytes.items ++ prefix_from p c.args.piece.now) (sym c.in-AfterPrefix.is)
    ∙ prefix_more old.bytes.items c.args.piece.now old.place c.self.invariant
    ∙ ap (λ t. prefix_of (t ++ c.args.piece.now)) c.self.view_is

pub returns-in-AfterPrefix-clause-rest : goal.returns-in-AfterPrefix-clause-rest
returns-in-AfterPrefix-clause-rest c =
    let old = c.self.inside in
    ap (λ p. rest_from p c.args.piece.now) (sym c.in-AfterPrefix.is)
    ∙ rest_more old.bytes.items c.args.piece.now old.place c.self.invariant
    ∙ ap (λ t. rest_of (t ++ c.args.piece.now)) c.self.view_is

pub invariant_of-self-2 : goal.invariant_of-self-2
invariant_of-self-2 c =
    let old = c.self.inside in
    let new : c.extend_from_slice.new.self.items ≡ old.bytes.items ++ prefix_from old.place c.args.piece.now =
    c.in_ok-extend_from_slice.ensures.items ∙ ap (λ t. old.bytes.items ++ t) c.prefix_in-count.ensures.prefix in
    subst (λ t. IsPrefix t c.prefix_in-count.result.1) (sym new)
    (subst (λ p. IsPrefix (old.bytes.items ++ prefix_from old.place c.args.piece.now) p)
    (sym c.prefix_in-count.ensures.next_place)
    (is_prefix_more old.bytes.items c.args.piece.now old.place c.self.invariant))

pub returns-clause-prefix : goal.returns-clause-prefix
returns-clause-prefix c =
    let old = c.self.inside in
    let new : c.extend_from_slice.new.self.items ≡ old.bytes.items ++ prefix_from old.place c.args.piece.now =
    c.in_ok-extend_from_slice.ensures.items ∙ ap (λ t. old.bytes.items ++ t) c.prefix_in-count.ensures.prefix in
    new ∙ prefix_more old.bytes.items c.args.piece.now old.place c.self.invariant
    ∙ ap (λ t. prefix_of (t ++ c.args.piece.now)) c.self.view_is

pub returns-clause-rest : goal.returns-clause-rest
returns-clause-rest c =
    let old = c.self.inside in
    take_rest c.args.piece.now c.prefix_in-count.result.0 ∙ c.prefix_in-count.ensures.rest
    ∙ rest_more old.bytes.items c.args.piece.now old.place c.self.invariant
    ∙ ap (λ t. rest_of (t ++ c.args.piece.now)) c.self.view_is
