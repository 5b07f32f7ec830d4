use Rattle.std.proofs.Common.{rules, ◌≡◌, ◌++◌, length, sym, subst, ap, ◌∙◌, OnOk, IsSome, true}
use Rattle.std.specs.Prelude.{is_ok}
use Rattle.intake.specs.Arrival.{appended, bytes_in}
use Rattle.wire_requests.specs.Kept.{IsParted, bytes_of}
use Rattle.wire_requests.proofs.Parting.{lines_parted, lines_bytes, parted_more, parted_pushed, pushed_parted}
use Rattle.wire_requests.proofs.Parting.{pushed_bytes, appended_nothing}
use Rattle.wire_requests.proofs.parted.Parted.push.Goals as goal

pub invariant_of-self-then-is_empty : goal.invariant_of-self-then-is_empty
invariant_of-self-then-is_empty c =
    let rest = c.in_ok-rest.rest.now in
    let none : length rest ≡ 0 = search rules in
    lines_parted c.self.inside.prefix c.args.piece.now c.take.new.self rest (bytes_in c.self.inside.archive)
    c.self.invariant c.in_ok-rest.ensures.prefix c.in_ok-rest.ensures.rest none

pub returns-then-is_empty-clause-taken : goal.returns-then-is_empty-clause-taken
returns-then-is_empty-clause-taken c = λ all is.
    let rest = c.in_ok-rest.rest.now in
    let none : length rest ≡ 0 = search rules in
    let known = subst (λ v. IsParted v.0 v.1 all) (sym c.self.view_is) is in
    parted_more c.self.inside.prefix c.args.piece.now c.take.new.self rest c.in_ok-rest.ensures.prefix
    c.in_ok-rest.ensures.rest
    c.self.inside.archive c.self.inside.archive all (appended_nothing c.self.inside.archive rest none) known

pub returns-then-is_empty-clause-whole : goal.returns-then-is_empty-clause-whole
returns-then-is_empty-clause-whole c = λ same.
    let rest = c.in_ok-rest.rest.now in
    let none : length rest ≡ 0 = search rules in
    lines_bytes c.self.inside.prefix c.args.piece.now c.take.new.self rest (bytes_in c.self.inside.archive)
    c.self.invariant c.in_ok-rest.ensures.prefix c.in_ok-rest.ensures.rest none
    ∙ ap (λ v. bytes_of v ++ c.args.piece.now) c.self.view_is

pub invariant_of-self-2 : goal.invariant_of-self-2
invariant_of-self-2 c =
    let old = c.self.inside in
    let rest = c.in_ok-rest.rest.now in
    let sent =
    subst (λ i. OnOk c.push.result ((c.push.new.self ≡ appended i rest) × IsSome i)) c.begin-self-inside.ensures
    c.push.ensures.ok in
    pushed_parted old.prefix c.args.piece.now c.take.new.self rest c.in_ok-rest.ensures.prefix c.in_ok-rest.ensures.rest
    c.push.result old.archive c.push.new.self c.self.invariant sent c.push.ensures.err

pub returns-clause-taken : goal.returns-clause-taken
returns-clause-taken c = λ all is.
    let old = c.self.inside in
    let rest = c.in_ok-rest.rest.now in
    let known = subst (λ v. IsParted v.0 v.1 all) (sym c.self.view_is) is in
    let sent =
    subst (λ i. OnOk c.push.result ((c.push.new.self ≡ appended i rest) × IsSome i)) c.begin-self-inside.ensures
    c.push.ensures.ok in
    parted_pushed old.prefix c.args.piece.now c.take.new.self rest c.in_ok-rest.ensures.prefix c.in_ok-rest.ensures.rest
    c.push.result old.archive c.push.new.self all sent c.push.ensures.err known

pub returns-clause-whole : goal.returns-clause-whole
returns-clause-whole c = λ same.
    let old = c.self.inside in
    let rest = c.in_ok-rest.rest.now in
    let is : c.is_ok.result ≡ true = cc in
    let sent =
    subst (λ i. OnOk c.push.result ((c.push.new.self ≡ appended i rest) × IsSome i)) c.begin-self-inside.ensures
    c.push.ensures.ok in
    pushed_bytes old.prefix c.args.piece.now c.take.new.self rest c.in_ok-rest.ensures.prefix c.in_ok-rest.ensures.rest
    c.push.result old.archive c.push.new.self c.self.invariant
    (sym c.is_ok.ensures.value ∙ is) sent c.push.ensures.err
    ∙ ap (λ v. bytes_of v ++ c.args.piece.now) c.self.view_is
