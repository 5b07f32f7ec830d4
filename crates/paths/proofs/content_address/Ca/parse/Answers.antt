use Rattle.std.proofs.Common.{◌≡◌, ◌++◌, ap, sym, refl, ◌∙◌, inl, inr}
use Rattle.std.specs.Prelude.{codes}
use Rattle.std.proofs.lemmas.Result.{IfOk-weaker, IfErr-weaker}
use Rattle.paths.proofs.Addresses.{address_of-text, address_of-source, address_of-other}
use Rattle.paths.proofs.content_address.Ca.parse.Goals as goal

pub returns-in-Some-clause-ok : goal.returns-in-Some-clause-ok
returns-in-Some-clause-ok c =
    let cut = c.in-Some.ensures.cases in
    let split : c.args.text.now ≡ codes "text:sha256:" ++ c.in-Some.digits.now =
    cut.1.1 ∙ ap (λ r. codes "text:sha256:" ++ r) (sym cut.2) in
    IfOk-weaker c.with_digits.result _ _ (λ ca h. address_of-text _ _ split ∙ h) c.with_digits.ensures.ok

pub returns-in-Some-clause-bad : goal.returns-in-Some-clause-bad
returns-in-Some-clause-bad c =
    let cut = c.in-Some.ensures.cases in
    let split : c.args.text.now ≡ codes "text:sha256:" ++ c.in-Some.digits.now =
    cut.1.1 ∙ ap (λ r. codes "text:sha256:" ++ r) (sym cut.2) in
    IfErr-weaker c.with_digits.result _ _
    (λ e h. elim h [ inl memory ↦ inl memory | inr bad ↦ inr (bad.0, address_of-text _ _ split ∙ bad.1) ])
    c.with_digits.ensures.bad

pub returns-in-Some-strip_prefix-clause-ok : goal.returns-in-Some-strip_prefix-clause-ok
returns-in-Some-strip_prefix-clause-ok c =
    let cut = c.in-Some-strip_prefix.ensures.cases in
    let split : c.args.text.now ≡ codes "fixed:r:sha256:" ++ c.in-Some-strip_prefix.digits.now =
    cut.1.1 ∙ ap (λ r. codes "fixed:r:sha256:" ++ r) (sym cut.2) in
    IfOk-weaker c.with_digits-in-Some-strip_prefix.result _ _ (λ ca h. address_of-source _ _ split ∙ h)
    c.with_digits-in-Some-strip_prefix.ensures.ok

pub returns-in-Some-strip_prefix-clause-bad : goal.returns-in-Some-strip_prefix-clause-bad
returns-in-Some-strip_prefix-clause-bad c =
    let cut = c.in-Some-strip_prefix.ensures.cases in
    let split : c.args.text.now ≡ codes "fixed:r:sha256:" ++ c.in-Some-strip_prefix.digits.now =
    cut.1.1 ∙ ap (λ r. codes "fixed:r:sha256:" ++ r) (sym cut.2) in
    IfErr-weaker c.with_digits-in-Some-strip_prefix.result _ _
    (λ e h. elim h [ inl memory ↦ inl memory | inr bad ↦ inr (bad.0, address_of-source _ _ split ∙ bad.1) ])
    c.with_digits-in-Some-strip_prefix.ensures.bad

pub returns-clause-bad : goal.returns-clause-bad
returns-clause-bad c = inr (refl, address_of-other _ c.in_default.ensures.cases c.in_default-strip_prefix.ensures.cases)
